-- Comparing two streams of commands is comparing terms. Assumes nothing.
use Rattle.std.proofs.Common.{◌≡◌, ℕ, suc, ◌+◌, ◌-◌, ◌<◌, true, false, ◌&&◌, List, [], ◌∷◌, ◌++◌, length, Some, sym, refl, ap, ◌∙◌, subst, arith}
use Rattle.std.proofs.Math.Bool.{and-true, and_assoc}
use Rattle.std.proofs.lemmas.Bool.{eq-eqb, ne_eqb}
use Rattle.terms.specs.Terms.{Term, var, atom, pair}
use Rattle.grammar.specs.declared.commands.Command.{Command}
use Rattle.grammar.specs.declared.commands.Command.TheVariants.{Atom, Var, Pair}
use Rattle.slips.specs.Checker.{same}
use Rattle.comparing.specs.Streams.{first_of, after_first, due_after}
use Rattle.comparing.specs.Cursors.{Took}
use Rattle.comparing.specs.Comparisons.{all_same, Comparing, Compared}
use Rattle.comparing.proofs.Cursors.{first_append, after_append}

-- two lists that begin with the same command
record Next (x : Term) (xs : List Term) (y : Term) (ys : List Term) (c : Command) : Type 0 where
  pub keeps : all_same (x ∷ xs) (y ∷ ys) ≡ all_same (after_first (x ∷ xs)) (after_first (y ∷ ys))
  pub lefts : length (after_first (x ∷ xs)) ≡ due_after (length xs) c
  pub rights : length (after_first (y ∷ ys)) ≡ due_after (length ys) c

next : (x : Term) (xs : List Term) (y : Term) (ys : List Term) (c : Command) → Some c ≡ first_of (x ∷ xs) → Some c ≡ first_of (y ∷ ys) → Next x xs y ys c
next (var a) xs (var b) ys c e f =
    let left : c ≡ Var a = cc in
    let right : c ≡ Var b = cc in
    let number : a ≡ b = cc in
    record {
      keeps = ap (λ t. t && all_same xs ys) (eq-eqb a b number);
      lefts = ap (due_after (length xs)) (sym left);
      rights = ap (due_after (length ys)) (sym right);
    }
next (atom a) xs (atom b) ys c e f =
    let left : c ≡ Atom a = cc in
    let right : c ≡ Atom b = cc in
    let number : a ≡ b = cc in
    record {
      keeps = ap (λ t. t && all_same xs ys) (eq-eqb a b number);
      lefts = ap (due_after (length xs)) (sym left);
      rights = ap (due_after (length ys)) (sym right);
    }
next (pair s t) xs (pair u w) ys c e f =
    let left : c ≡ Pair = cc in
    record {
      keeps = and_assoc (same s u) (same t w) (all_same xs ys);
      lefts = (let n : suc (suc (length xs)) ≡ length xs + 2 = omega arith in n) ∙ ap (due_after (length xs)) (sym left);
      rights = (let n : suc (suc (length ys)) ≡ length ys + 2 = omega arith in n) ∙ ap (due_after (length ys)) (sym left);
    }
next (var a) xs (atom b) ys c e f = absurd cc
next (var a) xs (pair u w) ys c e f = absurd cc
next (atom a) xs (var b) ys c e f = absurd cc
next (atom a) xs (pair u w) ys c e f = absurd cc
next (pair s t) xs (var b) ys c e f = absurd cc
next (pair s t) xs (atom b) ys c e f = absurd cc

-- two lists that do not
differs : (x : Term) (xs : List Term) (y : Term) (ys : List Term) (c d : Command) → (c ≡ d → ⊥) → Some c ≡ first_of (x ∷ xs) → Some d ≡ first_of (y ∷ ys)
    → all_same (x ∷ xs) (y ∷ ys) ≡ false
differs (var a) xs (var b) ys c d apart e f =
    let left : c ≡ Var a = cc in
    let right : d ≡ Var b = cc in
    ap (λ t. t && all_same xs ys) (ne_eqb a b (λ q. apart (left ∙ ap Var q ∙ sym right)))
differs (atom a) xs (atom b) ys c d apart e f =
    let left : c ≡ Atom a = cc in
    let right : d ≡ Atom b = cc in
    ap (λ t. t && all_same xs ys) (ne_eqb a b (λ q. apart (left ∙ ap Atom q ∙ sym right)))
differs (pair s t) xs (pair u w) ys c d apart e f =
    let both : c ≡ d = cc in
    absurd (apart both)
differs (var a) xs (atom b) ys c d apart e f = refl
differs (var a) xs (pair u w) ys c d apart e f = refl
differs (atom a) xs (var b) ys c d apart e f = refl
differs (atom a) xs (pair u w) ys c d apart e f = refl
differs (pair s t) xs (var b) ys c d apart e f = refl
differs (pair s t) xs (atom b) ys c d apart e f = refl

pub first_terms : {s : Term} {ss : List Term} {t : Term} {ts : List Term} {One Other : List Term → Type 0} → One (s ∷ ss) → Other (t ∷ ts) → Comparing s ss t ts One Other 1
first_terms {s} {ss} {t} {ts} a b =
    record { left = s ∷ []; right = t ∷ []; lefts = refl; rights = refl; one = a; other = b; as_first = sym (and-true (same s t)) }

module _ {s : Term} {ss : List Term} {t : Term} {ts : List Term} {One Other : List Term → Type 0} {due : ℕ} (k : Comparing s ss t ts One Other due) where
  -- nothing is due any more
  pub all_compared : due ≡ 0 → Compared s ss t ts One Other true
  all_compared z = by k.left k.right k.lefts k.rights k.one k.other k.as_first
    where
      by : (left right : List Term) → length left ≡ due → length right ≡ due → One (left ++ ss) → Other (right ++ ts) → same s t ≡ all_same left right → Compared s ss t ts One Other true
      by [] [] m n a b e = record { value = sym e; one = λ q. a; other = λ q. b }
      by [] (y ∷ ys) m n a b e = absurd (omega arith)
      by (x ∷ xs) right m n a b e = absurd (omega arith)

  module _ (some : 0 < due) where
    there : (Has : List Term → Type 0) (others us : List Term) → length us ≡ due → Has (us ++ others) → (t : Term) × (ts : List Term) × Has (t ∷ ts)
    there Has others [] n h = absurd (omega arith)
    there Has others (u ∷ us) n h = (u, us ++ others, h)

    -- a term is to come on either side
    pub one_there : (t : Term) × (ts : List Term) × One (t ∷ ts)
    one_there = there One ss k.left k.lefts k.one

    pub other_there : (t : Term) × (ts : List Term) × Other (t ∷ ts)
    other_there = there Other ts k.right k.rights k.other

    module _ {One2 Other2 : List Term → Type 0} where
      -- two commands that differ
      pub found_other : (c d : Command) → ((p : List Term) → One p → Took One2 p c) → ((p : List Term) → Other p → Took Other2 p d) → (c ≡ d → ⊥)
          → Compared s ss t ts One2 Other2 false
      found_other c d took1 took2 apart = by k.left k.right k.lefts k.rights k.one k.other k.as_first
        where
          by : (left right : List Term) → length left ≡ due → length right ≡ due → One (left ++ ss) → Other (right ++ ts) → same s t ≡ all_same left right → Compared s ss t ts One2 Other2 false
          by [] right m n a b e = absurd (omega arith)
          by (x ∷ xs) [] m n a b e = absurd (omega arith)
          by (x ∷ xs) (y ∷ ys) m n a b e =
              let is : same s t ≡ false =
              e ∙ differs x xs y ys c d apart ((took1 (x ∷ (xs ++ ss)) a).first ∙ sym (first_append x xs ss)) ((took2 (y ∷ (ys ++ ts)) b).first ∙ sym (first_append y ys ts)) in
              record {
                value = sym is;
                one = λ q. (absurd cc);
                other = λ q. (absurd cc);
              }

      -- the same command on both sides
      pub goes_on : (c : Command) → ((p : List Term) → One p → Took One2 p c) → ((p : List Term) → Other p → Took Other2 p c)
          → Comparing s ss t ts One2 Other2 (due_after (due - 1) c)
      goes_on c took1 took2 = by k.left k.right k.lefts k.rights k.one k.other k.as_first
        where
          by : (left right : List Term) → length left ≡ due → length right ≡ due → One (left ++ ss) → Other (right ++ ts) → same s t ≡ all_same left right
              → Comparing s ss t ts One2 Other2 (due_after (due - 1) c)
          by [] right m n a b e = absurd (omega arith)
          by (x ∷ xs) [] m n a b e = absurd (omega arith)
          by (x ∷ xs) (y ∷ ys) m n a b e =
              let w1 = took1 (x ∷ (xs ++ ss)) a in
              let w2 = took2 (y ∷ (ys ++ ts)) b in
              let q = next x xs y ys c (w1.first ∙ sym (first_append x xs ss)) (w2.first ∙ sym (first_append y ys ts)) in
              let m2 : length xs ≡ due - 1 = omega arith in
              let n2 : length ys ≡ due - 1 = omega arith in
              record {
                left = after_first (x ∷ xs);
                right = after_first (y ∷ ys);
                lefts = q.lefts ∙ ap (λ n. due_after n c) m2;
                rights = q.rights ∙ ap (λ n. due_after n c) n2;
                one = subst One2 (after_append x xs ss) w1.later;
                other = subst Other2 (after_append y ys ts) w2.later;
                as_first = e ∙ q.keeps;
              }
