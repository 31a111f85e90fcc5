-- Every run obeys the laws. Assumes nothing.
use Rattle.std.proofs.Common.{◌≡◌, ℕ, true, List, [], ◌∷◌, take, is_ok, Ok, ap, ◌∙◌}
use Rattle.std.proofs.lemmas.Bool.{and_parts}
use Rattle.terms.specs.Terms.{Rule}
use Rattle.grammar.specs.Singles.{rule}
use Rattle.grammar.specs.Encodings.{AllBytes}
use Rattle.grammar.specs.Texts.{all_bytes, fit, all_fit}
use Rattle.grammar.proofs.Fitting.{fit_text, bytes_known}
use Rattle.slips.specs.Opening.{AllRules, Opened, opening}
use Rattle.slips.specs.Checker.{check}
use Rattle.slips.specs.Laws.{Opens}
use Rattle.slips.proofs.Opening.{asked_of}
use Rattle.slips.proofs.Standing.{own_slips_pass}
use Rattle.slips.proofs.Given.{none_means_none, in_order}
use Rattle.slips.proofs.Passing.{what_passes_follows}
use Rattle.engine.specs.Promise.{Laws}

-- Every text of a store is a rule.
all_rules : (ts : List (List ℕ)) → all_fit ts ≡ true → AllRules ts
all_rules [] e = tt
all_rules (t ∷ ts) e =
    let p = and_parts (fit t) (all_fit ts) e in
    let f = fit_text t p.0 in
    (bytes_known t (and_parts (all_bytes t) (is_ok (rule t)) p.0).0, (f.r, f.read), all_rules ts p.1)

pub laws_hold : (texts : List (List ℕ)) (bs : List ℕ) (o : Opened) → all_fit texts ≡ true → AllBytes bs → opening texts bs ≡ Ok o → Laws bs o
laws_hold texts bs o fits all e =
    let opens : Opens texts bs o = record { each = all_rules texts fits; bytes = all; opens = e } in
    record {
      own_slips_pass = λ others same calls buffer now n r. ap (λ (rs : List Rule). check rs bs (take n now)) same ∙ own_slips_pass texts bs o opens calls buffer now n r;
      what_passes_follows = λ slip p θ c. what_passes_follows o.rules bs o.query all (asked_of texts bs o opens).query_is slip p θ c;
      none_means_none = λ calls a s θ f. none_means_none texts bs o opens calls a s θ f;
      in_order = λ calls between a b n s t. in_order texts bs o opens calls between a b n s t;
    }
