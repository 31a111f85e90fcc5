-- Rows of terms in a text. Assumes nothing.
use Rattle.std.proofs.Common.{◌≡◌, ℕ, zero, suc, ◌+◌, ◌≤◌, List, length, ap, arith}
use Rattle.terms.specs.Terms.{Term}
use Rattle.bindings.specs.Texts.{Spans}
use Rattle.bindings.proofs.Texts.{inside, spans_read, stands_more, declares_stands}
use Rattle.branches.specs.Rows.{after, Declared, Standing}

-- The place after a term is where it ends.
pub spans_after : (text : List ℕ) (p : ℕ) (t : Term) (q : ℕ) → Spans text p t q → after text p ≡ q
unfolding after
spans_after text p t q h =
    let i = inside text p t q h in
    ap (λ (f : Term × ℕ). f.1) (spans_read t (length text) text p q h (omega arith))

pub standing_more : (text : List ℕ) (m k p l n : ℕ) → m ≤ k → Standing text m p l n → Standing text k p l n
standing_more text m k p l zero h s = tt
standing_more text m k p l (suc n) h s = (stands_more h s.0, standing_more text m k (after text p) l n h s.1)

-- Rows that stand with their own variables stand over the cells that these get.
pub declared_standing : (text : List ℕ) (v l m p n : ℕ) → l + v ≤ m → Declared text v p n → Standing text m p l n
declared_standing text v l m p zero h d = tt
declared_standing text v l m p (suc n) h d = (declares_stands l m h d.0, declared_standing text v l m (after text p) n h d.1)
