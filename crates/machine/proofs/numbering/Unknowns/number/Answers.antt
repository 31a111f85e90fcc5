use Rattle.std.proofs.Common.{◌≡◌, ℕ, zero, suc, ◌+◌, ◌-◌, ◌≤◌, List, get_or, map, set, Some, None, Option, SomeIff, refl, sym, ap, ◌∙◌, subst, arith}
use Rattle.std.proofs.Math.ListN.{get_or-map}
use Rattle.std.proofs.lemmas.List.{length-map, map-set}
use Rattle.terms.specs.Terms.{var}
use Rattle.slips.specs.Slips.{appeared}
use Rattle.slips.specs.Numberings.{Numbers}
use Rattle.slips.proofs.Numberings.{numbers_few, numbers_known, numbers_new}
use Rattle.machine.specs.Numberings.{number_of}
use Rattle.machine.proofs.numbering.Unknowns.number.Goals as goal

-- What the code takes for the number of a cell is what the table gives it.
given : (n : ℕ) (r : Option ℕ) → SomeIff r (1 ≤ n) (n - 1) → r ≡ number_of n
given zero None h = refl
given zero (Some k) h = absurd (omega (arith, h))
given (suc n) None h = absurd (omega (arith, h))
given (suc n) (Some k) h = ap Some (omega (arith, h))

entry : (table : List ℕ) (cell : ℕ) (r o : Option ℕ) → SomeIff r (1 ≤ get_or table cell 0) (get_or table cell 0 - 1) → r ≡ o → get_or (map number_of table) cell None ≡ o
entry table cell r o h e = get_or-map number_of table cell 0 ∙ sym (given (get_or table cell 0) r h) ∙ e

-- The next number goes into the table.
put : (table : List ℕ) (cell met : ℕ) → map number_of (set table cell (met + 1)) ≡ set (map number_of table) cell (Some met)
put table cell met =
    let next : met + 1 ≡ suc met = omega arith in
    map-set number_of table cell (met + 1) ∙ ap (λ (n : ℕ). set (map number_of table) cell (number_of n)) next

pub returns-in-Some : goal.returns-in-Some
returns-in-Some c =
    let e = entry c.args.self.now.numbers c.args.cell c.checked_sub.result _ c.checked_sub.ensures c.in-Some.is in
    record {
      number = λ used xs l n. (numbers_known n c.args.cell _ l e).1;
      numbers = λ used xs l n. (numbers_known n c.args.cell _ l e).0;
    }

pub overflow_add-self : goal.overflow_add-self
overflow_add-self c = omega (arith, numbers_few c.requires.3, c.requires.3.room, length-map c.args.self.now.numbers number_of)

pub returns : goal.returns
returns c =
    let e = entry c.args.self.now.numbers c.args.cell c.checked_sub.result _ c.checked_sub.ensures c.in_default.is in
    record {
      number = λ used xs l n. (numbers_new n c.args.cell l e).1;
      numbers = λ used xs l n.
          subst (λ (os : List (Option ℕ)). Numbers os (c.args.self.now.met + 1) used (appeared xs (var c.args.cell))) (sym (put c.args.self.now.numbers c.args.cell c.args.self.now.met)) (numbers_new n c.args.cell l e).0;
    }
