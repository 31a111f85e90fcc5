-- Terms that stand in a text: their ends, their forms, their sizes. Assumes nothing.
use Rattle.std.proofs.Common.{◌≡◌, ℕ, zero, suc, ◌+◌, ◌*◌, ◌<◌, ◌≤◌, cond, eqb, List, length, get_or, sym, refl, ap, ◌∙◌, subst, ap₂, arith}
use Rattle.terms.specs.Terms.{Term, var, atom, pair}
use Rattle.unification.specs.Variables.{shifted, Within}
use Rattle.unification.proofs.Variables.{within_more, within_shifted}
use Rattle.bindings.specs.Meanings.{size}
use Rattle.bindings.specs.Texts.{Spans, paired, read_within, tree, term, Stands, Declares}

-- A term is not empty, stands inside, and is no larger than its bytes.
pub inside : (text : List ℕ) (p : ℕ) (t : Term) (q : ℕ) → Spans text p t q → (p < q) × (q ≤ length text) × (size t + p ≤ q)
inside text p (var x) q h = (omega arith, omega arith, omega arith)
inside text p (atom a) q h = (omega arith, omega arith, omega arith)
inside text p (pair s t) q h =
    let i = inside text (p + 1) s h.2.0 h.2.1 in
    let j = inside text h.2.0 t q h.2.2 in
    (omega arith, omega arith, omega arith)

-- What stands at p is what is read there.
pub spans_read : (t : Term) (n : ℕ) (text : List ℕ) (p q : ℕ) → Spans text p t q → q ≤ p + n → read_within n text p ≡ (t, q)
unfolding read_within
spans_read (var x) zero text p q h l = absurd (omega arith)
spans_read (var x) (suc n) text p q h l =
    ap (λ (b : ℕ). cond (eqb b 1) (atom (get_or text (p + 1) 0 * 256 + get_or text (p + 2) 0), p + 3) (cond (eqb b 2) (var (get_or text (p + 1) 0), p + 2) (paired (read_within n text (p + 1)) (λ m. read_within n text m)))) h.1
    ∙ ap₂ (λ (y m : ℕ). (var y, m)) (sym h.2) (sym h.3)
spans_read (atom a) zero text p q h l = absurd (omega arith)
spans_read (atom a) (suc n) text p q h l =
    ap (λ (b : ℕ). cond (eqb b 1) (atom (get_or text (p + 1) 0 * 256 + get_or text (p + 2) 0), p + 3) (cond (eqb b 2) (var (get_or text (p + 1) 0), p + 2) (paired (read_within n text (p + 1)) (λ m. read_within n text m)))) h.1
    ∙ ap₂ (λ (y m : ℕ). (atom y, m)) (sym h.2) (sym h.3)
spans_read (pair s t) zero text p q h l =
    let i = inside text p (pair s t) q h in absurd (omega arith)
spans_read (pair s t) (suc n) text p q h l =
    let i = inside text (p + 1) s h.2.0 h.2.1 in
    let j = inside text h.2.0 t q h.2.2 in
    ap (λ (b : ℕ). cond (eqb b 1) (atom (get_or text (p + 1) 0 * 256 + get_or text (p + 2) 0), p + 3) (cond (eqb b 2) (var (get_or text (p + 1) 0), p + 2) (paired (read_within n text (p + 1)) (λ m. read_within n text m)))) h.1
    ∙ ap (λ (f : Term × ℕ). paired f (λ m. read_within n text m)) (spans_read s n text (p + 1) h.2.0 h.2.1 (omega arith))
    ∙ ap (λ (f : Term × ℕ). (pair s f.0, f.1)) (spans_read t n text h.2.0 q h.2.2 (omega arith))

pub spans_tree : (text : List ℕ) (p : ℕ) (t : Term) (q : ℕ) → Spans text p t q → tree text p ≡ t
unfolding tree
spans_tree text p t q h =
    let i = inside text p t q h in
    ap (λ (f : Term × ℕ). f.0) (spans_read t (length text) text p q h (omega arith))

spans_atom : (text : List ℕ) (p : ℕ) (t : Term) (q : ℕ) → Spans text p t q → get_or text p 0 ≡ 1
    → (p + 2 < length text) × (t ≡ atom (get_or text (p + 1) 0 * 256 + get_or text (p + 2) 0)) × (q ≡ p + 3)
spans_atom text p (var x) q h e = absurd (omega arith)
spans_atom text p (atom a) q h e = (h.0, ap atom h.2, h.3)
spans_atom text p (pair s t) q h e = absurd (omega arith)

spans_variable : (text : List ℕ) (p : ℕ) (t : Term) (q : ℕ) → Spans text p t q → get_or text p 0 ≡ 2
    → (p + 1 < length text) × (t ≡ var (get_or text (p + 1) 0)) × (q ≡ p + 2)
spans_variable text p (var x) q h e = (h.0, ap var h.2, h.3)
spans_variable text p (atom a) q h e = absurd (omega arith)
spans_variable text p (pair s t) q h e = absurd (omega arith)

-- The parts of a pair, and where they stand.
pub record Fork (text : List ℕ) (p : ℕ) (t : Term) (q : ℕ) : Type 0 where
  pub left : Term
  pub right : Term
  pub mid : ℕ
  pub at_left : Spans text (p + 1) left mid
  pub at_right : Spans text mid right q
  pub is : t ≡ pair left right

pub fork : (text : List ℕ) (p : ℕ) (t : Term) (q : ℕ) → Spans text p t q → (get_or text p 0 ≡ 1 → ⊥) → (get_or text p 0 ≡ 2 → ⊥) → Fork text p t q
fork text p (var x) q h n m = absurd (m h.1)
fork text p (atom a) q h n m = absurd (n h.1)
fork text p (pair s t) q h n m =
    record { left = s; right = t; mid = h.2.0; at_left = h.2.1; at_right = h.2.2; is = refl }

-- The end of an atom, and of a variable.
pub skip_atom : (text : List ℕ) (p : ℕ) (t : Term) (q : ℕ) → Spans text p t q → get_or text p 0 ≡ 1 → (p + 2 < length text) × (q ≡ p + 3)
skip_atom text p t q h e = let a = spans_atom text p t q h e in (a.0, a.2)

pub skip_variable : (text : List ℕ) (p : ℕ) (t : Term) (q : ℕ) → Spans text p t q → get_or text p 0 ≡ 2 → (p + 1 < length text) × (q ≡ p + 2)
skip_variable text p t q h e = let a = spans_variable text p t q h e in (a.0, a.2)

-- The forms of what stands at p.
pub stands_atom : {text : List ℕ} {n p l : ℕ} → Stands text n p l → get_or text p 0 ≡ 1
    → (p + 2 < length text) × (term text p l ≡ atom (get_or text (p + 1) 0 * 256 + get_or text (p + 2) 0))
stands_atom {text} {n} {p} {l} s e = let a = spans_atom text p (tree text p) s.end s.spans e in (a.0, ap (shifted l) a.1)

pub stands_variable : {text : List ℕ} {n p l : ℕ} → Stands text n p l → get_or text p 0 ≡ 2
    → (p + 1 < length text) × (term text p l ≡ var (l + get_or text (p + 1) 0)) × (l + get_or text (p + 1) 0 < n)
stands_variable {text} {n} {p} {l} s e =
    let a = spans_variable text p (tree text p) s.end s.spans e in
    (a.0, ap (shifted l) a.1, subst (λ (t : Term). Within n (shifted l t)) a.1 s.within)

-- The first part and the rest of the pair that stands at p.
pub record Parts (text : List ℕ) (n p l : ℕ) : Type 0 where
  pub mid : ℕ
  pub spans : Spans text (p + 1) (tree text (p + 1)) mid
  pub first : Stands text n (p + 1) l
  pub rest : Stands text n mid l
  pub before_end : mid < length text
  pub is : term text p l ≡ pair (term text (p + 1) l) (term text mid l)

pub stands_pair : {text : List ℕ} {n p l : ℕ} → Stands text n p l → (get_or text p 0 ≡ 1 → ⊥) → (get_or text p 0 ≡ 2 → ⊥) → Parts text n p l
stands_pair {text} {n} {p} {l} s no_atom no_variable =
    let f = fork text p (tree text p) s.end s.spans no_atom no_variable in
    let a : tree text (p + 1) ≡ f.left = spans_tree text (p + 1) f.left f.mid f.at_left in
    let b : tree text f.mid ≡ f.right = spans_tree text f.mid f.right s.end f.at_right in
    let e : term text p l ≡ pair (term text (p + 1) l) (term text f.mid l) =
    ap (shifted l) f.is ∙ ap₂ (λ (x y : Term). pair (shifted l x) (shifted l y)) (sym a) (sym b) in
    let w : Within n (pair (term text (p + 1) l) (term text f.mid l)) = subst (Within n) e s.within in
    let j = inside text f.mid f.right s.end f.at_right in
    record {
      mid = f.mid;
      spans = subst (λ (t : Term). Spans text (p + 1) t f.mid) (sym a) f.at_left;
      first = record { end = f.mid; spans = subst (λ (t : Term). Spans text (p + 1) t f.mid) (sym a) f.at_left; within = w.0 };
      rest = record { end = s.end; spans = subst (λ (t : Term). Spans text f.mid t s.end) (sym b) f.at_right; within = w.1 };
      before_end = omega arith;
      is = e;
    }

-- A shift by none changes nothing.
pub shifted_zero : (t : Term) → shifted 0 t ≡ t
shifted_zero (var x) = ap var (omega arith)
shifted_zero (atom a) = refl
shifted_zero (pair s t) = ap₂ pair (shifted_zero s) (shifted_zero t)

-- A shift keeps the size, and what stands is no larger than the text.
pub shifted_size : (l : ℕ) (t : Term) → size (shifted l t) ≡ size t
shifted_size l (var x) = refl
shifted_size l (atom a) = refl
shifted_size l (pair s t) = ap₂ (λ (x y : ℕ). suc (x + y)) (shifted_size l s) (shifted_size l t)

pub stands_size : {text : List ℕ} {n p l : ℕ} → Stands text n p l → size (term text p l) ≤ length text
stands_size {text} {n} {p} {l} s =
    let i = inside text p (tree text p) s.end s.spans in omega (arith, shifted_size l (tree text p))

-- What stands with its variables below n, stands.
pub stands_of : (text : List ℕ) (n p l : ℕ) (t : Term) (q : ℕ) → Spans text p t q → Within n (shifted l t) → Stands text n p l
stands_of text n p l t q h b =
    let e : t ≡ tree text p = sym (spans_tree text p t q h) in
    record { end = q; spans = subst (λ (s : Term). Spans text p s q) e h; within = subst (λ (s : Term). Within n (shifted l s)) e b }

-- What stands over some cells stands over more.
pub stands_more : {text : List ℕ} {n m p l : ℕ} → n ≤ m → Stands text n p l → Stands text m p l
stands_more {text} {n} {m} {p} {l} h s = record { end = s.end; spans = s.spans; within = within_more n m h (term text p l) s.within }

-- What stands over its own variables stands over cells from any level on.
pub declares_stands : {text : List ℕ} {v p : ℕ} (l n : ℕ) → l + v ≤ n → Declares text v p → Stands text n p l
declares_stands {text} {v} {p} l n h d =
    record { end = d.end; spans = d.spans; within = within_more (l + v) n h (term text p l) (within_shifted l v (tree text p) d.within) }
