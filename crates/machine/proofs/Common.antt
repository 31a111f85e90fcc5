-- Two facts in the text, and their common instance. Assumes nothing.
use mathlib.Core.Path.{◌≡◌, refl, sym, ap, ap₂, subst, ◌∙◌}
use mathlib.Core.Bool.{Bool, true, true≢false}
use mathlib.Core.List.{List, [], ◌∷◌, ◌++◌}
use mathlib.Core.Option.{Option, none, some}
use Prim.Native.Nat.{ℕ, suc, ◌+◌, ◌≤◌}
use native.Mathlib.Omega.{arith}
use lib.ListN.{length, get_or, length-append}
use mir.Syntax.{w8}
use mir.Val.{Fits as Byte}
use Rattle.std.specs.Prelude.{None}
use Rattle.std.specs.declared.result.Result.{Result}
use Rattle.std.specs.declared.result.Result.TheVariants.{Ok, Err}
use Rattle.terms.specs.declared.Form.TheVariants.{Rules}
use Rattle.terms.specs.Terms.{Term, Rule}
use Rattle.terms.specs.Bytes.{encoding, encodings, Fits}
use Rattle.grammar.specs.declared.faults.SingleFault.{SingleFault}
use Rattle.grammar.specs.Asking.{go}
use Rattle.grammar.specs.Encodings.{AllBytes}
use Rattle.grammar.specs.Singles.{rule}
use Rattle.grammar.proofs.Alone.{rules_inverse}
use Rattle.reading.specs.Views.{RuleView, rule_shown, seen}
use Rattle.unification.specs.Variables.{shifted}
use Rattle.unification.specs.Substitutions.{Substitution}
use Rattle.unification.specs.Unification.{unify}
use Rattle.bindings.specs.Cells.{Cell}
use Rattle.bindings.specs.declared.TermAt.{TermAt}
use Rattle.bindings.specs.Meanings.{Trail, meaning}
use Rattle.bindings.specs.Texts.{tree, term, Stands, Declares, Holds}
use Rattle.bindings.specs.Trails.{trail, none_bound, Sound, TermIn, meaning_at}
use Rattle.bindings.proofs.Texts.{shifted_zero, stands_more, declares_stands}
use Rattle.bindings.proofs.Links.{free_trail, free_sound}
use Rattle.bindings.proofs.Encodings.{holds_after, holds_more, encoding_tree, encoding_declares}
use Rattle.machine.specs.declared.cells.Cells.{Cells}
use Rattle.machine.specs.declared.attempt.Head.{Head}
use Rattle.machine.specs.Tries.{found, goal_term, Ready, Outcome, Tried}
use Rattle.machine.specs.Facts.{instance_by, common, common_of}

-- ── what a try leaves ──

-- after a rule is taken the goal stands over the cells, and means the instance
pub record Settled (text : List ℕ) (c : Cells) (r : Head) (g : TermAt) (c' : Cells) : Type 0 where
  pub used : c'.used ≡ c.used + r.variables
  pub sound : Sound text c'.used c'.table c'.newest
  pub stands : TermIn text c'.used g
  pub is : instance_by (found text c r g) (goal_term text c g) ≡ some (goal_term text c' g)

module _ {text : List ℕ} {c : Cells} {r : Head} {g : TermAt} {c' : Cells} {q : Bool} where
  taken_settles : Ready text c r g → (o : Option Substitution) → Outcome text c r.variables c' o q → q ≡ true
      → (c'.used ≡ c.used + r.variables) × Sound text c'.used c'.table c'.newest × TermIn text c'.used g
      × (instance_by o (goal_term text c g) ≡ some (goal_term text c' g))
  taken_settles ready none e y = absurd (true≢false (sym y ∙ e.0))
  taken_settles ready (some σ) e y =
      let t = e.1 in (
        t.used,
        subst (λ (n : ℕ). Sound text n c'.table c'.newest) (sym t.used) t.applied.sound,
        stands_more (omega (arith, t.used)) ready.goal,
        ap some (sym (t.applied.means (term text g.place g.level))),
      )

  pub settled : Ready text c r g → Tried text c r g c' q → q ≡ true → Settled text c r g c'
  settled ready t y =
      let z = taken_settles ready (found text c r g) t.outcome y in
      record { used = z.0; sound = z.1; stands = z.2; is = z.3 }

-- The same cells under other names.
module _ {text text' : List ℕ} {n n' : ℕ} (t : text' ≡ text) (u : n' ≡ n) where
  pub sound_as : {cs cs' : List Cell} {h h' : ℕ} → cs' ≡ cs → h' ≡ h → Sound text n cs h → Sound text' n' cs' h'
  sound_as {cs} {cs'} {h} {h'} d k s =
      subst (λ (x : List ℕ). Sound x n' cs' h') (sym t)
      (subst (λ (x : ℕ). Sound text x cs' h') (sym u) (subst (λ (x : List Cell). Sound text n x h') (sym d) (subst (λ (x : ℕ). Sound text n cs x) (sym k) s)))

  pub term_as : (g : TermAt) → TermIn text n g → TermIn text' n' g
  term_as g s = subst (λ (x : List ℕ). TermIn x n' g) (sym t) (subst (λ (x : ℕ). TermIn text x g) (sym u) s)

pub meaning_as : {text text' : List ℕ} {cs cs' : List Cell} {h h' : ℕ} (g : TermAt) → text' ≡ text → cs' ≡ cs → h' ≡ h → meaning_at text' cs' h' g ≡ meaning_at text cs h g
meaning_as {text} {text'} {cs} {cs'} {h} {h'} g t d k =
    ap (λ (x : List ℕ). meaning_at x cs' h' g) t ∙ ap₂ (λ (x : List Cell) (y : ℕ). meaning_at text x y g) d k

-- ── two terms in the text ──

loaded : (goal head text : List ℕ) → text ≡ goal ++ head → Holds text 0 goal × Holds text (length goal) head
loaded goal head text is = (
  subst (λ (t : List ℕ). Holds t 0 goal) (sym is) (holds_more 0 goal goal head (holds_after [] goal)),
  subst (λ (t : List ℕ). Holds t (length goal) head) (sym is) (holds_after goal head),
)

-- ── a fact that was read ──

pub all_bytes : (bs : List ℕ) → ((i : ℕ) → Byte w8 (get_or bs i 0)) → AllBytes bs
all_bytes [] h = tt
all_bytes (b ∷ bs) h = (omega (arith, (h 0).fits), all_bytes bs (λ i. h (suc i)))

-- a rule that was read, by its head's bytes
pub record Fact (bs : List ℕ) (v : RuleView) : Type 0 where
  pub is : Rule
  pub reads : rule bs ≡ Ok is
  pub head : v.head ≡ encoding Rules is.head
  pub variables : v.variables ≡ is.variables
  pub fits : Fits is.variables is.head
  pub few : is.variables ≤ 64
  pub short : length v.head ≤ 512

pub fact : (bs : List ℕ) (v : RuleView) → AllBytes bs → Ok v ≡ seen (rule_shown 0) (rule bs) → Fact bs v
fact bs v all e = by (rule bs) refl e
  where
    by : (r : Result Rule SingleFault) → rule bs ≡ r → Ok v ≡ seen (rule_shown 0) r → Fact bs v
    by (Ok a) is e =
        let w = (rules_inverse.only_encodings bs a all is).0 in
        let same : v ≡ rule_shown 0 a = cc in
        record {
          is = a;
          reads = is;
          head = ap (λ (x : RuleView). x.head) same;
          variables = ap (λ (x : RuleView). x.variables) same;
          fits = w.declared.0;
          few = w.few_variables;
          short = omega (arith, w.short, length-append (encoding Rules a.head) (encodings Rules a.goals), ap (λ (x : RuleView). length x.head) same);
        }
    by (Err x) is e = let z : ◌≡◌ {A = ℕ} 0 1 = cc in absurd (omega arith)

-- ── the two together ──

module _ (text : List ℕ) (c : Cells) (a b : Rule) (r : Head) (g : TermAt)
    (goal : Holds text 0 (encoding Rules b.head)) (head : Holds text r.place (encoding Rules a.head))
    (size : length text ≤ 16384) (many : length c.table ≡ 2048) (free : (i : ℕ) → get_or c.table i None ≡ None)
    (used : c.used ≡ b.variables) (newest : c.newest ≡ none_bound) (variables : r.variables ≡ a.variables)
    (place : g.place ≡ 0) (level : g.level ≡ 0)
    (head_fits : Fits a.variables a.head) (goal_fits : Fits b.variables b.head) (few_head : a.variables ≤ 64) (few_goal : b.variables ≤ 64) where
  pub facts_ready : Ready text c r g
  facts_ready =
      record {
        ordered = subst (λ (h : ℕ). Sound text c.used c.table h) (sym newest) (free_sound text c.used c.table (omega (arith, size)) (omega (arith, used, few_goal, many)) (omega (arith, many)) free);
        head = subst (λ (v : ℕ). Declares text v r.place) (sym variables) (encoding_declares text a.variables r.place a.head head head_fits);
        goal =
            subst (λ (p : ℕ). Stands text c.used p g.level) (sym place)
            (subst (λ (l : ℕ). Stands text c.used 0 l) (sym level) (declares_stands 0 c.used (omega (arith, used)) (encoding_declares text b.variables 0 b.head goal goal_fits)));
        room = omega (arith, used, variables, few_head, few_goal);
      }

  goal_is : goal_term text c g ≡ b.head
  goal_is =
      ap₂ (λ (p l : ℕ). meaning (trail text c.table c.newest) (term text p l)) place level
      ∙ ap (λ (h : ℕ). meaning (trail text c.table h) (term text 0 0)) newest
      ∙ ap (λ (L : Trail). meaning L (term text 0 0)) (free_trail text c.table free)
      ∙ shifted_zero (tree text 0)
      ∙ encoding_tree text 0 0 b.head goal

  pub facts_common : instance_by (found text c r g) (goal_term text c g) ≡ common a b
  facts_common =
      ap₂ (λ (s t : Term). instance_by (unify (shifted c.used s) t) t) (encoding_tree text 0 r.place a.head head) goal_is
      ∙ ap (λ (n : ℕ). instance_by (unify (shifted n a.head) b.head) b.head) used

module _ {left right : List ℕ} {v w : RuleView} (a : Fact left v) (b : Fact right w) (text : List ℕ) (c : Cells)
    (is : text ≡ w.head ++ v.head) (many : length c.table ≡ 2048) (free : (i : ℕ) → get_or c.table i None ≡ None)
    (used : c.used ≡ w.variables) (newest : c.newest ≡ none_bound) where
  goal_holds : Holds text 0 (encoding Rules b.is.head)
  goal_holds = subst (λ (bs : List ℕ). Holds text 0 bs) b.head (loaded w.head v.head text is).0

  head_holds : Holds text (length w.head) (encoding Rules a.is.head)
  head_holds = subst (λ (bs : List ℕ). Holds text (length w.head) bs) a.head (loaded w.head v.head text is).1

  size : length text ≤ 16384
  size = omega (arith, ap length is, length-append w.head v.head, a.short, b.short)

  pub both_ready : Ready text c (record { place = length w.head; variables = v.variables }) (record { place = 0; level = 0 })
  both_ready =
      facts_ready text c a.is b.is (record { place = length w.head; variables = v.variables }) (record { place = 0; level = 0 }) goal_holds head_holds
      size many free (used ∙ b.variables) newest a.variables refl refl a.fits b.fits a.few b.few

  pub both_common : instance_by (found text c (record { place = length w.head; variables = v.variables }) (record { place = 0; level = 0 })) (goal_term text c (record { place = 0; level = 0 }))
      ≡ common a.is b.is
  both_common =
      facts_common text c a.is b.is (record { place = length w.head; variables = v.variables }) (record { place = 0; level = 0 }) goal_holds head_holds
      size many free (used ∙ b.variables) newest a.variables refl refl a.fits b.fits a.few b.few

  pub both_few : c.used + v.variables ≤ 256
  both_few = omega (arith, used, b.variables, b.few, a.variables, a.few)

pub both_read : {left right : List ℕ} {v w : RuleView} (a : Fact left v) (b : Fact right w) → common_of left right ≡ Ok (common a.is b.is)
both_read {left} {right} a b =
    ap (λ (r : Result Rule SingleFault). go r (λ e. e) (λ x. go (rule right) (λ e. e) (λ y. Ok (common x y)))) a.reads
    ∙ ap (λ (r : Result Rule SingleFault). go r (λ e. e) (λ y. Ok (common a.is y))) b.reads
