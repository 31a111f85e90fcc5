-- The turns of unification: from two pairs, with their first parts done, to the rests. Assumes nothing.
use Rattle.std.proofs.Common.{◌≡◌, ℕ, ◌<◌, ◌≤◌, Bool, true, false, List, sym, refl, ap, ◌∙◌, subst, arith, ne_eqb}
use Rattle.terms.specs.Terms.{Term, pair}
use Rattle.unification.specs.Variables.{is_variable}
use Rattle.unification.specs.Unification.{unify, bind}
use Rattle.bindings.specs.Cells.{Cell}
use Rattle.bindings.specs.declared.Shape.{Shape}
use Rattle.bindings.specs.declared.Shape.TheVariants.{Open, Atom, Pair}
use Rattle.bindings.specs.declared.TermAt.{TermAt}
use Rattle.bindings.specs.Shapes.{Shows}
use Rattle.bindings.specs.Texts.{term}
use Rattle.bindings.specs.Trails.{Sound, TermIn, weight}
use Rattle.bindings.specs.Endings.{Ends}
use Rattle.bindings.proofs.Endings.{case_equal, case_left, case_atom_right, case_pair_right, case_atoms, case_atom_pair, case_pair_atom, case_pairs, var_other, both_ends, first_sound, weight_rest}
use Rattle.bindings.proofs.Shapes.{split}
use Rattle.machine.specs.declared.guard.Guard.{Guard}
use Rattle.machine.specs.declared.text.Text.{Text}
use Rattle.machine.specs.declared.view.View.{View}
use Rattle.machine.specs.Views.{seen_as, Lent}
use Rattle.machine.specs.Guards.{OnlyBound, InOrder, Over, means, cells_of}
use Rattle.machine.proofs.Common.{meaning_as}

pub means_lent : (text : Text) (g : Guard) {v : View} → Lent text (cells_of g) v → (t : TermAt) → seen_as v t ≡ means text.bytes g t
means_lent text g l t = meaning_as t (ap (λ (x : Text). x.bytes) l.text) l.cells l.newest

pub only_then : {g h k : Guard} → OnlyBound g h → OnlyBound h k → OnlyBound g k
only_then {g} {h} {k} a b =
    record {
      used = b.used ∙ a.used;
      mark = b.mark ∙ a.mark;
      keep = b.keep ∙ a.keep;
      same = b.same ∙ a.same;
      many = b.many ∙ a.many;
      since = λ was m s. b.since was m (a.since was m s);
    }

-- unification of two terms under the guard g, where it leaves these cells and says r
abbrev pub EndsFrom : List ℕ → ℕ → Guard → TermAt → TermAt → List Cell → ℕ → Bool → Type 0
EndsFrom text n g a b cells k r = Ends text n g.cells.now g.newest cells k (unify (means text g a) (means text g b)) r

-- ── by the forms of the terms ──

abbrev pub ShownIn : List ℕ → Guard → Term → Shape → Type 0
ShownIn text g m x = Shows text g.used g.cells.now g.newest m x

pub shown_as : (text : List ℕ) (g : Guard) (m : Term) {x y : Shape} → ShownIn text g m x → x ≡ y → ShownIn text g m y
shown_as text g m s e = subst (λ (z : Shape). ShownIn text g m z) e s

same_shown : (text : List ℕ) (g : Guard) (m n : Term) (x : Shape) → ShownIn text g m x → ShownIn text g n x → m ≡ n
same_shown text g m n (Open c) v w = v.2 ∙ sym w.2
same_shown text g m n (Atom a) v w = v ∙ sym w
same_shown text g m n (Pair p) v w = v.2 ∙ sym w.2

module _ (text : List ℕ) (g : Guard) (sound : InOrder text g) where
  not_variable : (n : Term) (x : ℕ) (other : Shape) → ShownIn text g n other → (Open x ≡ other → ⊥) → is_variable x n ≡ false
  not_variable n x (Open y) w h = var_other x y n w.2 (λ e. h (ap Open e))
  not_variable n x (Atom a) w h = ap (is_variable x) w
  not_variable n x (Pair p) w h = ap (is_variable x) (split sound w).is

  module _ (s t : TermAt) {one other : Shape} (v : ShownIn text g (means text g s) one) (w : ShownIn text g (means text g t) other) where
    -- Both have the same form,
    pub forms_same : one ≡ other → EndsFrom text g.used g s t g.cells.now g.newest true
    forms_same e = case_equal _ _ sound (same_shown text g _ _ other (shown_as text g (means text g s) v e) w)

    module _ (n : one ≡ other → ⊥) {cells : List Cell} {k : ℕ} {r : Bool} where
      -- the one is a free cell,
      pub form_left : (x : ℕ) → one ≡ Open x → Ends text g.used g.cells.now g.newest cells k (bind x (means text g t)) r → EndsFrom text g.used g s t cells k r
      form_left x e d = case_left _ _ x (shown_as text g (means text g s) v e).2 (not_variable (means text g t) x other w (λ f. n (e ∙ f))) d

      -- only the other is,
      pub form_right : ((x : ℕ) → one ≡ Open x → ⊥) → (y : ℕ) → other ≡ Open y → Ends text g.used g.cells.now g.newest cells k (bind y (means text g s)) r → EndsFrom text g.used g s t cells k r
      form_right shut y f d = by one v shut
        where
          by : (x : Shape) → ShownIn text g (means text g s) x → ((c : ℕ) → x ≡ Open c → ⊥) → EndsFrom text g.used g s t cells k r
          by (Open c) i h = absurd (h c refl)
          by (Atom a) i h = case_atom_right _ _ a y i (shown_as text g (means text g t) w f).2 d
          by (Pair p) i h = case_pair_right _ _ _ _ y (split sound i).is (shown_as text g (means text g t) w f).2 d

    -- or neither is, and one is no pair.
    pub forms_apart : (one ≡ other → ⊥) → ((x : ℕ) → one ≡ Open x → ⊥) → ((y : ℕ) → other ≡ Open y → ⊥) → ((p q : TermAt) → one ≡ Pair p → other ≡ Pair q → ⊥)
        → EndsFrom text g.used g s t g.cells.now g.newest false
    forms_apart = by one other v w
      where
        by : (x y : Shape) → ShownIn text g (means text g s) x → ShownIn text g (means text g t) y → (x ≡ y → ⊥) → ((c : ℕ) → x ≡ Open c → ⊥) → ((c : ℕ) → y ≡ Open c → ⊥)
            → ((p q : TermAt) → x ≡ Pair p → y ≡ Pair q → ⊥) → EndsFrom text g.used g s t g.cells.now g.newest false
        by (Open c) y i j n h l u = absurd (h c refl)
        by (Atom a) (Open c) i j n h l u = absurd (l c refl)
        by (Atom a) (Atom b) i j n h l u =
            subst (λ (r : Bool). EndsFrom text g.used g s t g.cells.now g.newest r) (ne_eqb a b (λ e. n (ap Atom e))) (case_atoms _ _ a b sound i j)
        by (Atom a) (Pair q) i j n h l u = case_atom_pair _ _ a _ _ i (split sound j).is refl
        by (Pair p) (Open c) i j n h l u = absurd (l c refl)
        by (Pair p) (Atom b) i j n h l u = case_pair_atom _ _ _ _ b (split sound i).is j refl
        by (Pair p) (Pair q) i j n h l u = absurd (u p q refl refl)

-- ── turn by turn ──

-- the falling number
abbrev pub weighs_in : List ℕ → Guard → TermAt → ℕ
weighs_in text g t = weight text g.cells.now g.newest t

-- from the guard g with the terms a and b unification has come to the guard k with the terms s and t
pub record Goes (text : List ℕ) (g k : Guard) (a b s t : TermAt) : Type 0 where
  pub only : OnlyBound g k
  pub sound : InOrder text k
  pub left : Over text k s
  pub right : Over text k t
  pub weighs : weighs_in text k s ≤ weighs_in text g a
  pub leads : (cells : List Cell) (m : ℕ) (r : Bool) → EndsFrom text k.used k s t cells m r → EndsFrom text g.used g a b cells m r

-- r is the rest of the pair s, whose first part is f
pub record Rest (text : List ℕ) (g : Guard) (s f r : TermAt) : Type 0 where
  pub stands : Over text g r
  pub is : means text g s ≡ pair (means text g f) (means text g r)

module _ {text : List ℕ} {g k w : Guard} {a b s t f r o p : TermAt} {q : Bool} (goes : Goes text g k a b s t)
    (l : Rest text k s f r) (m : Rest text k t o p) (only : OnlyBound k w)
    (e : EndsFrom text k.used k f o w.cells.now w.newest q) (y : q ≡ true) where
  pub turn_less : weighs_in text w r < weighs_in text k s
  turn_less = weight_rest text k.used k.cells.now k.newest _ s f r l.is l.stands only.many e y

  pub goes_on : Goes text g w a b r p
  goes_on =
      record {
        only = only_then goes.only only;
        sound = subst (λ (n : ℕ). Sound text n w.cells.now w.newest) (sym only.used) (first_sound _ e y);
        left = subst (λ (n : ℕ). TermIn text n r) (sym only.used) l.stands;
        right = subst (λ (n : ℕ). TermIn text n p) (sym only.used) m.stands;
        weighs = let z = turn_less in omega (arith, goes.weighs);
        leads = λ cells j x d.
            goes.leads cells j x
            (case_pairs _ _ _ _ _ _ l.is m.is
            (both_ends _ (term text r.place r.level) (term text p.place p.level) e y
            (subst (λ (n : ℕ). EndsFrom text n w r p cells j x) only.used d)));
      }
