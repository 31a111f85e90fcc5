-- How far a slip has been checked, from step to step. Assumes nothing.
use Rattle.std.proofs.Common.{◌≡◌, ℕ, ◌<◌, true, false, List, [], ◌∷◌, ◌++◌, map, length, drop, Some, None, Option, sym, refl, ap, ◌∙◌, subst, arith}
use Rattle.std.specs.Option.{is_some}
use Rattle.terms.specs.declared.Form.TheVariants.{Rules}
use Rattle.terms.specs.Terms.{Term, var, atom, pair}
use Rattle.terms.specs.Bytes.{encodings}
use Rattle.stores.specs.Answers.{byte_at}
use Rattle.resolution.specs.Cells.{present}
use Rattle.comparing.specs.declared.Inside.{Inside}
use Rattle.comparing.specs.declared.Cursor.{Cursor}
use Rattle.comparing.specs.Cursors.{DueAt, Means}
use Rattle.comparing.specs.Stacks.{Stacked}
use Rattle.comparing.specs.Stages.{has_some, Next}
use Rattle.comparing.specs.Texts.{Sources, Comes}
use Rattle.comparing.proofs.Cursors.{from_text}
use Rattle.comparing.proofs.Fronts.{byte_front, byte_end}
use Rattle.comparing.proofs.Stacks.{taken_off}

-- ── a cursor that is done ──

module _ {slip table text : List ℕ} {first place : ℕ} {pending : List Term} where
  -- terms of the slip are due
  some_inside : {i : Inside} → Means slip table text first place (Some i) pending → true ≡ has_some pending
  some_inside {i} m = by m.due m.in_slip m.is
    where
      by : (us : List Term) → DueAt slip i us → pending ≡ us ++ map (present m.terms) m.own → true ≡ has_some pending
      by [] s e = let n = s.counted in let l = s.some in absurd (omega arith)
      by (u ∷ us) s e = sym (ap has_some e)

  module _ (m : Means slip table text first place None pending) where
    -- the text has a byte more, or none
    text_has : is_some (byte_at place text) ≡ has_some pending
    text_has = by m.own m.in_text (from_text refl m)
      where
        more : (b : ℕ) (bs : List ℕ) → drop place text ≡ b ∷ bs → is_some (byte_at place text) ≡ true
        more b bs d = ap is_some (byte_front text place b bs d)

        by : (own : List Term) → drop place text ≡ encodings Rules own → pending ≡ map (present m.terms) own → is_some (byte_at place text) ≡ has_some pending
        by [] d q = ap is_some (byte_end text place d) ∙ sym (ap has_some q)
        by (var x ∷ ts) d q = more _ _ d ∙ sym (ap has_some q)
        by (atom a ∷ ts) d q = more _ _ d ∙ sym (ap has_some q)
        by (pair s t ∷ ts) d q = more _ _ d ∙ sym (ap has_some q)

  -- the same by a test of what is due
  pub due_more : (o : Option Inside) → is_some o ≡ true → Means slip table text first place o pending → true ≡ has_some pending
  due_more None e m = absurd cc
  due_more (Some i) e m = some_inside m

  pub text_more : (o : Option Inside) → is_some o ≡ false → Means slip table text first place o pending → is_some (byte_at place text) ≡ has_some pending
  text_more None e m = text_has m
  text_more (Some i) e m = absurd cc

-- ── frames ──

module _ (s : Sources) (table : List ℕ) where
  -- the top frame is done
  pub done : (frames left : List Cursor) (c : Cursor) (goals : List Term) → frames ≡ left ++ c ∷ [] → ((own : List Term) → Comes s table c own → false ≡ has_some own)
      → Stacked (Comes s table) frames goals → Stacked (Comes s table) left goals
  done frames left c goals e none st =
      let k = taken_off (Comes s table) left c goals (subst (λ f. Stacked (Comes s table) f goals) e st) in
      subst (Stacked (Comes s table) left) (sym (k.4 ∙ ap (λ own. own ++ k.1) (none_is k.0 (none k.0 k.2)))) k.3
    where
      none_is : (ts : List Term) → false ≡ has_some ts → ts ≡ []
      none_is [] h = refl
      none_is (t ∷ ts) h = absurd cc

  -- it is not
  pub next : (frames left : List Cursor) (c : Cursor) (goals : List Term) → frames ≡ left ++ c ∷ [] → ((own : List Term) → Comes s table c own → true ≡ has_some own)
      → Stacked (Comes s table) frames goals → Next s table left (Some c) goals
  next frames left c goals e more st =
      let k = taken_off (Comes s table) left c goals (subst (λ f. Stacked (Comes s table) f goals) e st) in
      by k.0 k.1 (more k.0 k.2) k.2 k.3 k.4
    where
      by : (own below : List Term) → true ≡ has_some own → Comes s table c own → Stacked (Comes s table) left below → goals ≡ own ++ below → Next s table left (Some c) goals
      by [] below h m b q = absurd cc
      by (g ∷ own) below h m b q = (g, own, below, m, b, q)

  -- there is no frame
  pub nothing_left : (frames : List Cursor) (goals : List Term) → (0 < length frames → ⊥) → Stacked (Comes s table) frames goals → goals ≡ []
  nothing_left [] goals none st = st
  nothing_left (c ∷ frames) goals none st = absurd (none (omega arith))
