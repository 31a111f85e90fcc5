-- Terms that were copied into the text stand there. Assumes nothing.
use Rattle.std.proofs.Common.{◌≡◌, ℕ, suc, ◌+◌, ◌*◌, ◌/◌, ◌%◌, ◌<◌, ◌≤◌, List, [], ◌∷◌, ◌++◌, length, get_or, sym, refl, ap, ◌∙◌, subst, arith, length-append}
use Rattle.std.proofs.lemmas.List.{get_or_append_left, get_or-append-add}
use Rattle.terms.specs.declared.Form.TheVariants.{Rules}
use Rattle.terms.specs.Terms.{Term, var, atom, pair}
use Rattle.terms.specs.Bytes.{encoding, Fits}
use Rattle.unification.specs.Variables.{Within}
use Rattle.bindings.specs.Texts.{Spans, tree, Declares, Holds}
use Rattle.bindings.proofs.Texts.{spans_tree}

-- ── bytes in the text ──

holds_each : (text : List ℕ) (p : ℕ) (bs : List ℕ) → p + length bs ≤ length text → ((j i : ℕ) → j ≡ p + i → i < length bs → get_or text j 0 ≡ get_or bs i 0) → Holds text p bs
holds_each text p [] l e = tt
holds_each text p (b ∷ bs) l e = (
  omega (arith, l),
  e p 0 (omega arith) (omega arith),
  holds_each text (p + 1) bs (omega (arith, l)) (λ j i q h. e j (suc i) (omega (arith, q)) (omega (arith, h))),
)

-- What is put at the end of the text stands there.
pub holds_after : (text bs : List ℕ) → Holds (text ++ bs) (length text) bs
holds_after text bs =
    holds_each (text ++ bs) (length text) bs (omega (arith, length-append text bs)) (λ j i q h. ap (λ (n : ℕ). get_or (text ++ bs) n 0) q ∙ get_or-append-add text bs i 0)

-- What stands in the text stays when more comes after it.
pub holds_more : (p : ℕ) (bs text more : List ℕ) → Holds text p bs → Holds (text ++ more) p bs
holds_more p [] text more h = tt
holds_more p (b ∷ bs) text more h = (
  omega (arith, h.0, length-append text more),
  get_or_append_left text more 0 p h.0 ∙ h.1,
  holds_more (p + 1) bs text more h.2,
)

-- The parts of what stands in the text stand there.
pub holds_first : (text : List ℕ) (p : ℕ) (cs bs : List ℕ) → Holds text p (cs ++ bs) → Holds text p cs
holds_first text p [] bs h = tt
holds_first text p (c ∷ cs) bs h = (h.0, h.1, holds_first text (p + 1) cs bs h.2)

pub holds_second : (text : List ℕ) (p q : ℕ) (cs bs : List ℕ) → q ≡ p + length cs → Holds text p (cs ++ bs) → Holds text q bs
holds_second text p q [] bs e h = subst (λ (x : ℕ). Holds text x bs) (sym (e ∙ omega arith)) h
holds_second text p q (c ∷ cs) bs e h = holds_second text (p + 1) q cs bs (omega (arith, e)) h.2

-- ── terms in the text ──

halves : (a : ℕ) → a ≡ a / 256 * 256 + a % 256
halves a = omega arith

-- The encoding of a term is where the term stands.
pub encoding_spans : (text : List ℕ) (t : Term) (p q : ℕ) → q ≡ p + length (encoding Rules t) → Holds text p (encoding Rules t) → Spans text p t q
encoding_spans text (var x) p q e h = (h.2.0, h.1, sym h.2.1, e)
encoding_spans text (atom a) p q e h =
    let two : p + 1 + 1 ≡ p + 2 = omega arith in
    let low : get_or text (p + 2) 0 ≡ a % 256 = subst (λ (x : ℕ). get_or text x 0 ≡ a % 256) two h.2.2.1 in (
      subst (λ (x : ℕ). x < length text) two h.2.2.0,
      h.1,
      halves a ∙ ap (λ (x : ℕ). x * 256 + a % 256) (sym h.2.1) ∙ ap (λ (x : ℕ). get_or text (p + 1) 0 * 256 + x) (sym low),
      e,
    )
encoding_spans text (pair s t) p q e h =
    let first = encoding Rules s in
    let rest = encoding Rules t in
    let mid = p + 1 + length first in (
      h.0,
      h.1,
      (
        mid,
        encoding_spans text s (p + 1) mid refl (holds_first text (p + 1) first rest h.2),
        encoding_spans text t mid q (omega (arith, e, length-append first rest)) (holds_second text (p + 1) mid first rest refl h.2),
      ),
    )

-- A term that fits so many variables is within them.
pub fits_within : (v : ℕ) (t : Term) → Fits v t → Within v t
fits_within v (var x) f = f
fits_within v (atom a) f = tt
fits_within v (pair s t) f = (fits_within v s f.0, fits_within v t f.1)

module _ (text : List ℕ) (v p : ℕ) (t : Term) (holds : Holds text p (encoding Rules t)) where
  spans : Spans text p t (p + length (encoding Rules t))
  spans = encoding_spans text t p _ refl holds

  pub encoding_tree : tree text p ≡ t
  encoding_tree = spans_tree text p t _ spans

  pub encoding_declares : Fits v t → Declares text v p
  encoding_declares f =
      record {
        end = p + length (encoding Rules t);
        spans = subst (λ (s : Term). Spans text p s (p + length (encoding Rules t))) (sym encoding_tree) spans;
        within = subst (Within v) (sym encoding_tree) (fits_within v t f);
      }
