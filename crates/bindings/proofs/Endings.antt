-- The ways in which unification under the cells ends. Assumes nothing.
use Rattle.std.proofs.Common.{◌≡◌, ℕ, suc, ◌+◌, ◌*◌, ◌<◌, ◌≤◌, Bool, true, false, cond, eqb, List, [], ◌∷◌, ◌++◌, length, get_or, set, sym, refl, ap, ◌∙◌, subst, ap₂, le_refl, suc-mul, mul-le-mul, arith, length-append, Some, None, true≢false, ne_eqb}
use mathlib.Core.Option.{Option, none, some}
use Rattle.terms.specs.Terms.{Term, var, atom, pair}
use Rattle.unification.specs.Variables.{is_variable, occurs}
use Rattle.unification.specs.Substitutions.{Substitution, apply}
use Rattle.unification.specs.Unification.{unify, bind, followed, rests}
use Rattle.bindings.specs.Meanings.{meaning, size, growth}
use Rattle.bindings.proofs.Meanings.{size_positive}
use Rattle.unification.proofs.Substitutions.{apply_append}
use Rattle.unification.proofs.Steps.{unify_left, unify_atom_right, unify_pair_right, unify_atoms, unify_atom_pair, unify_pair_atom, unify_pairs, unify_itself}
use Rattle.bindings.specs.Cells.{Cell}
use Rattle.bindings.specs.declared.TermAt.{TermAt}
use Rattle.bindings.specs.Texts.{term}
use Rattle.bindings.specs.Trails.{free_count}
use Rattle.bindings.specs.Trails.{trail, Sound, TermIn, meaning_at, size_bound, weight}
use Rattle.bindings.specs.Endings.{Applied, Ends}
use Rattle.bindings.proofs.Links.{bind_applied, sound_size}

pub applied_nothing : {text : List ℕ} {n : ℕ} {cs : List Cell} {h : ℕ} → Sound text n cs h → Applied text n cs h cs h []
applied_nothing g = record { sound = g; means = λ t. refl; fewer = omega arith }

-- A cell that does not occur in the term is bound to it.
pub assign_yes : (text : List ℕ) (n : ℕ) (cs : List Cell) (h : ℕ) (ds : List Cell) (k x : ℕ) (t : TermAt) → Sound text n cs h → TermIn text n t → x < n → get_or cs x None ≡ None
    → occurs x (meaning_at text cs h t) ≡ false → ds ≡ set cs x (Some (record { term = t; before = h })) → k ≡ x
    → Ends text n cs h ds k (bind x (meaning_at text cs h t)) true
assign_yes text n cs h ds k x t g s lt fr e q r =
    subst (λ (b : Bool). Ends text n cs h ds k (cond b none (some ((x, meaning_at text cs h t) ∷ []))) true) (sym e)
    (record {
      says = (
        refl,
        subst (λ (es : List Cell). Applied text n cs h es k ((x, meaning_at text cs h t) ∷ [])) (sym q)
            (subst (λ (y : ℕ). Applied text n cs h (set cs x (Some (record { term = t; before = h }))) y ((x, meaning_at text cs h t) ∷ [])) (sym r)
            (bind_applied g x t lt fr s e)),
      );
    })

pub var_other : (x y : ℕ) (m : Term) → m ≡ var y → (x ≡ y → ⊥) → is_variable x m ≡ false
var_other x y m e n = ap (is_variable x) e ∙ ne_eqb x y n

module _ {text : List ℕ} {n : ℕ} {cs : List Cell} {h : ℕ} where
  applied_then : {ds es : List Cell} {k m : ℕ} {σ τ : Substitution} → Applied text n cs h ds k σ → Applied text n ds k es m τ → Applied text n cs h es m (σ ++ τ)
  applied_then {ds} {es} {k} {m} {σ} {τ} f g =
      record {
        sound = g.sound;
        means = λ t. g.means t ∙ ap (apply τ) (f.means t) ∙ sym (apply_append σ τ (meaning (trail text cs h) t));
        fewer = omega (arith, f.fewer, g.fewer, length-append σ τ);
      }

  after_ends : {ds es : List Cell} {k m : ℕ} {σ : Substitution} → Applied text n cs h ds k σ → (o : Option Substitution) (r : Bool) → Ends text n ds k es m o r → Ends text n cs h es m (followed σ o) r
  after_ends f none r e = record { says = e.says }
  after_ends f (some τ) r e = record { says = (e.says.0, applied_then f e.says.1) }

  -- Both firsts and seconds.
  pub both_ends : {ds es : List Cell} {k m : ℕ} (o : Option Substitution) {q r : Bool} (s t : Term) → Ends text n cs h ds k o q → q ≡ true
      → Ends text n ds k es m (unify (meaning (trail text ds k) s) (meaning (trail text ds k) t)) r
      → Ends text n cs h es m (rests unify o (meaning (trail text cs h) s) (meaning (trail text cs h) t)) r
  both_ends none s t e y f = absurd (true≢false (sym y ∙ e.says))
  both_ends {ds} {es} {k} {m} (some σ) {q} {r} s t e y f =
      after_ends e.says.1 (unify (apply σ (meaning (trail text cs h) s)) (apply σ (meaning (trail text cs h) t))) r
      (subst (λ (o : Option Substitution). Ends text n ds k es m o r) (ap₂ unify (e.says.1.means s) (e.says.1.means t)) f)

  -- The firsts alone.
  pub first_failed : {ds : List Cell} {k : ℕ} (o : Option Substitution) {q : Bool} (s t : Term) → Ends text n cs h ds k o q → q ≡ false
      → Ends text n cs h ds k (rests unify o s t) false
  first_failed none s t e y = record { says = refl }
  first_failed (some σ) s t e y = absurd (true≢false (sym e.says.0 ∙ y))

  -- Where there is no unifier, nothing is said of the cells.
  pub failed_ends : {ds es : List Cell} {k m : ℕ} (o : Option Substitution) {q : Bool} → Ends text n cs h ds k o q → q ≡ false → Ends text n cs h es m o q
  failed_ends none e y = record { says = y }
  failed_ends (some σ) e y = absurd (true≢false (sym e.says.0 ∙ y))

  pub first_sound : {ds : List Cell} {k : ℕ} (o : Option Substitution) {q : Bool} → Ends text n cs h ds k o q → q ≡ true → Sound text n ds k
  first_sound none e y = absurd (true≢false (sym y ∙ e.says))
  first_sound (some σ) e y = e.says.1.sound

-- The measure falls at the firsts, and at the seconds.
module _ (text : List ℕ) (n : ℕ) (cs : List Cell) (h : ℕ) where
  pub weight_first : (a f : TermAt) (r : Term) → meaning_at text cs h a ≡ pair (meaning_at text cs h f) r → weight text cs h f < weight text cs h a
  unfolding weight
  weight_first a f r e =
      let s : size (meaning_at text cs h a) ≡ suc (size (meaning_at text cs h f) + size r) = ap size e in omega arith

  weight_nil : {ds : List Cell} {k : ℕ} (a f r : TermAt) → meaning_at text cs h a ≡ pair (meaning_at text cs h f) (meaning_at text cs h r)
      → length ds ≡ length cs → Applied text n cs h ds k [] → weight text ds k r < weight text cs h a
  unfolding weight size_bound
  weight_nil {ds} {k} a f r e many j =
      let s : size (meaning_at text cs h a) ≡ suc (size (meaning_at text cs h f) + size (meaning_at text cs h r)) = ap size e in
      let i : size (meaning_at text ds k r) ≡ size (meaning_at text cs h r) = ap size (j.means (term text r.place r.level)) in
      let m : size_bound text ds ≡ size_bound text cs = ap (λ (x : ℕ). suc (growth (length text) x)) many in
      let fr : free_count ds ≡ free_count cs = omega (arith, j.fewer) in
      let w : free_count ds * size_bound text ds ≡ free_count cs * size_bound text cs = ap₂ (λ (x y : ℕ). x * y) fr m in
      omega arith

  weight_some : {ds : List Cell} {k : ℕ} (a r : TermAt) (p : ℕ × Term) (σ : Substitution)
      → TermIn text n r → length ds ≡ length cs → Applied text n cs h ds k (p ∷ σ) → weight text ds k r < weight text cs h a
  unfolding weight size_bound
  weight_some {ds} {k} a r p σ s many j =
      let m : size_bound text ds ≡ size_bound text cs = ap (λ (x : ℕ). suc (growth (length text) x)) many in
      let b : size (meaning_at text ds k r) < size_bound text ds = sound_size j.sound r.place r.level s in
      let fr : suc (free_count ds) ≤ free_count cs = omega (arith, j.fewer) in
      let w : suc (free_count ds) * size_bound text cs ≤ free_count cs * size_bound text cs = mul-le-mul fr (le_refl (size_bound text cs)) in
      let x : free_count ds * size_bound text ds ≡ free_count ds * size_bound text cs = ap (λ (y : ℕ). free_count ds * y) m in
      let z = size_positive (meaning_at text cs h a) in
      omega (arith, suc-mul (free_count ds) (size_bound text cs))

  pub weight_rest : {ds : List Cell} {k : ℕ} (o : Option Substitution) {q : Bool} (a f r : TermAt) → meaning_at text cs h a ≡ pair (meaning_at text cs h f) (meaning_at text cs h r)
      → TermIn text n r → length ds ≡ length cs → Ends text n cs h ds k o q → q ≡ true → weight text ds k r < weight text cs h a
  weight_rest none a f r e s many d y = absurd (true≢false (sym y ∙ d.says))
  weight_rest (some []) a f r e s many d y = weight_nil a f r e many d.says.1
  weight_rest (some (p ∷ σ)) a f r e s many d y = weight_some a r p σ s many d.says.1

-- The nine cases.
module _ {text : List ℕ} {n : ℕ} {cs : List Cell} {h : ℕ} where
  module _ {ds : List Cell} {k : ℕ} (g j : Term) {r : Bool} where
    pub case_left : (x : ℕ) → g ≡ var x → is_variable x j ≡ false → Ends text n cs h ds k (bind x j) r → Ends text n cs h ds k (unify g j) r
    case_left x e other d = subst (λ (o : Option Substitution). Ends text n cs h ds k o r) (sym (ap (λ (t : Term). unify t j) e ∙ unify_left x j other)) d

    pub case_atom_right : (a y : ℕ) → g ≡ atom a → j ≡ var y → Ends text n cs h ds k (bind y g) r → Ends text n cs h ds k (unify g j) r
    case_atom_right a y e f d =
        subst (λ (o : Option Substitution). Ends text n cs h ds k o r) (ap (λ (t : Term). bind y t) e ∙ sym (ap₂ unify e f ∙ unify_atom_right a y)) d

    pub case_pair_right : (s t : Term) (y : ℕ) → g ≡ pair s t → j ≡ var y → Ends text n cs h ds k (bind y g) r → Ends text n cs h ds k (unify g j) r
    case_pair_right s t y e f d =
        subst (λ (o : Option Substitution). Ends text n cs h ds k o r) (ap (λ (t : Term). bind y t) e ∙ sym (ap₂ unify e f ∙ unify_pair_right s t y)) d

    pub case_atom_pair : (a : ℕ) (s t : Term) → g ≡ atom a → j ≡ pair s t → r ≡ false → Ends text n cs h ds k (unify g j) r
    case_atom_pair a s t e f d = subst (λ (o : Option Substitution). Ends text n cs h ds k o r) (sym (ap₂ unify e f ∙ unify_atom_pair a s t)) (record { says = d })

    pub case_pair_atom : (s t : Term) (a : ℕ) → g ≡ pair s t → j ≡ atom a → r ≡ false → Ends text n cs h ds k (unify g j) r
    case_pair_atom s t a e f d = subst (λ (o : Option Substitution). Ends text n cs h ds k o r) (sym (ap₂ unify e f ∙ unify_pair_atom s t a)) (record { says = d })

    pub case_pairs : (a b c d : Term) → g ≡ pair a b → j ≡ pair c d → Ends text n cs h ds k (rests unify (unify a c) b d) r → Ends text n cs h ds k (unify g j) r
    case_pairs a b c d e f w = subst (λ (o : Option Substitution). Ends text n cs h ds k o r) (sym (ap₂ unify e f ∙ unify_pairs a b c d)) w

  atoms_done : (b : Bool) → Sound text n cs h → Ends text n cs h cs h (cond b (some []) none) b
  atoms_done true sound = record { says = (refl, applied_nothing sound) }
  atoms_done false sound = record { says = refl }

  pub case_atoms : (g j : Term) (a b : ℕ) → Sound text n cs h → g ≡ atom a → j ≡ atom b → Ends text n cs h cs h (unify g j) (eqb a b)
  case_atoms g j a b sound e f =
      subst (λ (o : Option Substitution). Ends text n cs h cs h o (eqb a b)) (sym (ap₂ unify e f ∙ unify_atoms a b)) (atoms_done (eqb a b) sound)

  pub case_equal : (g j : Term) → Sound text n cs h → g ≡ j → Ends text n cs h cs h (unify g j) true
  case_equal g j sound e =
      subst (λ (o : Option Substitution). Ends text n cs h cs h o true) (sym (ap (λ (t : Term). unify t j) e ∙ unify_itself j)) (record { says = (refl, applied_nothing sound) })
