-- A cursor from one command to the next. Assumes nothing.
use Rattle.std.proofs.Common.{◌≡◌, ℕ, ◌+◌, ◌<◌, ◌≤◌, List, [], ◌∷◌, ◌++◌, map, length, get_or, drop, Some, None, Option, sym, refl, ap, ◌∙◌, subst, append_assoc, arith, length-append, length-drop}
use lib.ListN.{length-map}
use Rattle.terms.specs.declared.Form.TheVariants.{Rules}
use Rattle.terms.specs.Terms.{Term, var, atom, pair}
use Rattle.terms.specs.Bytes.{two, encoding, encodings, AllFit}
use Rattle.grammar.specs.declared.commands.Command.{Command}
use Rattle.grammar.specs.declared.commands.Command.TheVariants.{Atom, Var, Pair}
use Rattle.reading.specs.Taking.{size}
use Rattle.resolution.specs.Cells.{cell, present}
use Rattle.slips.proofs.Written.{ahead}
use Rattle.comparing.specs.Streams.{first_of, after_first, text_first}
use Rattle.comparing.specs.declared.Inside.{Inside}
use Rattle.comparing.specs.Cursors.{DueAt, Due, Means, Went, Took}
use Rattle.comparing.proofs.Fronts.{few, text_front, text_inside}

pub first_append : (u : Term) (us xs : List Term) → first_of (u ∷ us) ≡ first_of ((u ∷ us) ++ xs)
first_append (var x) us xs = refl
first_append (atom a) us xs = refl
first_append (pair s t) us xs = refl

pub after_append : (u : Term) (us xs : List Term) → after_first ((u ∷ us) ++ xs) ≡ after_first (u ∷ us) ++ xs
after_append (var x) us xs = refl
after_append (atom a) us xs = refl
after_append (pair s t) us xs = refl

size_few : (c : Command) → size Rules c ≤ 3
size_few (Var x) = omega arith
size_few (Atom a) = omega arith
size_few Pair = omega arith

module _ {slip table text : List ℕ} {first place : ℕ} {pending : List Term} where
  -- terms are due where a cursor is inside one
  pub due_there : {o : Option Inside} {i : Inside} → o ≡ Some i → Means slip table text first place o pending → (ts : List Term) × DueAt slip i ts
  due_there e m = (m.due, subst (λ x. Due slip x m.due) e m.in_slip)

  -- inside a term of the slip
  pub took_inside : {o : Option Inside} {i : Inside} → o ≡ Some i → Means slip table text first place o pending → (c : Command) (o2 : Option Inside) → ((ts : List Term) → DueAt slip i ts → Went slip c o2 ts)
      → Took (Means slip table text first place o2) pending c
  took_inside {o} {i} e m c o2 went = by m.due (subst (λ x. Due slip x m.due) e m.in_slip) m.is
    where
      by : (us : List Term) → DueAt slip i us → pending ≡ us ++ map (present m.terms) m.own → Took (Means slip table text first place o2) pending c
      by [] s e = let n = s.counted in let l = s.some in absurd (omega arith)
      by (u ∷ us) s e =
          let w = went (u ∷ us) s in
          let xs = map (present m.terms) m.own in
          record {
            first = w.first ∙ first_append u us xs ∙ ap first_of (sym e);
            later =
                record {
                  terms = m.terms;
                  listed = m.listed;
                  own = m.own;
                  in_text = m.in_text;
                  declared = m.declared;
                  short = m.short;
                  due = after_first (u ∷ us);
                  in_slip = w.later;
                  is = ap after_first e ∙ after_append u us xs;
                };
          }

  -- between the terms of the slip: what is to come is what the text has
  module _ {o : Option Inside} (none : o ≡ None) (m : Means slip table text first place o pending) where
    pub from_text : pending ≡ map (present m.terms) m.own
    from_text = m.is ∙ ap (λ us. us ++ map (present m.terms) m.own) (subst (λ x. Due slip x m.due) none m.in_slip)

    now_at : (place2 : ℕ) (own2 : List Term) → drop place2 text ≡ encodings Rules own2 → AllFit (length m.terms) own2
        → Means slip table text first place2 None (map (present m.terms) own2)
    now_at place2 own2 d f =
        record { terms = m.terms; listed = m.listed; own = own2; in_text = d; declared = f; short = m.short; due = []; in_slip = refl; is = refl }

    -- a command stands in the text where a term is to come
    pub stands_there : (t : Term) (ts : List Term) → pending ≡ t ∷ ts → (c : Command) × (text_first text place ≡ Some c)
    stands_there t ts e = by m.own (sym from_text ∙ e) (text_front text place m.own m.in_text)
      where
        by : (own : List Term) → map (present m.terms) own ≡ t ∷ ts → text_first text place ≡ first_of own → (c : Command) × (text_first text place ≡ Some c)
        by [] q h = absurd cc
        by (var x ∷ us) q h = (Var x, h)
        by (atom a ∷ us) q h = (Atom a, h)
        by (pair u w ∷ us) q h = (Pair, h)

    module _ (c : Command) (e : Some c ≡ text_first text place) (n : ℕ) (long : n ≡ size Rules c) where
      -- the place behind it
      pub onward : (place < place + n) × (place + n < 65536)
      onward = let l = text_inside text place c e in let s = m.short in let k = size_few c in (omega arith, omega arith)

      -- an atom or a pair is taken
      pub took_text : ((x : ℕ) → c ≡ Var x → ⊥) → Took (Means slip table text first (place + n) o) pending c
      took_text other =
          subst (λ x. Took (Means slip table text first (place + n) x) pending c) (sym none)
          (subst (λ k. Took (Means slip table text first (place + k) None) pending c) (sym long)
          (by c m.own other m.in_text m.declared from_text (e ∙ text_front text place m.own m.in_text)))
        where
          by : (c : Command) (own : List Term) → ((x : ℕ) → c ≡ Var x → ⊥) → drop place text ≡ encodings Rules own → AllFit (length m.terms) own → pending ≡ map (present m.terms) own → Some c ≡ first_of own
              → Took (Means slip table text first (place + size Rules c) None) pending c
          by c [] o d f q h = absurd cc
          by (Var y) own o d f q h = absurd (o y refl)
          by Pair (var x ∷ ts) o d f q h = absurd cc
          by (Atom a) (var x ∷ ts) o d f q h = absurd cc
          by Pair (atom b ∷ ts) o d f q h = absurd cc
          by (Atom a) (pair s t ∷ ts) o d f q h = absurd cc
          by (Atom a) (atom b ∷ ts) o d f q h =
              record {
                first = h ∙ ap first_of (sym q);
                later = subst (Means slip table text first (place + 3) None) (sym (ap after_first q)) (now_at (place + 3) ts (ahead place text (0x01 ∷ two b) (encodings Rules ts) d) f.1);
              }
          by Pair (pair s t ∷ ts) o d f q h =
              record {
                first = h ∙ ap first_of (sym q);
                later =
                    subst (Means slip table text first (place + 1) None) (sym (ap after_first q))
                    (now_at (place + 1) (s ∷ t ∷ ts)
                    (ahead place text (0x03 ∷ []) ((encoding Rules s ++ encoding Rules t) ++ encodings Rules ts) d ∙ append_assoc (encoding Rules s) (encoding Rules t) (encodings Rules ts))
                    (f.0.0, (f.0.1, f.1)));
              }

      -- at a variable the cursor goes into its term
      pub record Enters (k : ℕ) : Type 0 where
        pub low : first + k < length table
        pub into : Means slip table text first (place + n) (Some (record { place = get_or table (first + k) 0; due = 1 })) pending

      pub enters : (k : ℕ) → c ≡ Var k → Enters k
      enters k v = by m.own m.in_text m.declared from_text (ap Some (sym v) ∙ e ∙ text_front text place m.own m.in_text)
        where
          behind : place + 2 ≡ place + n
          behind = ap (λ i. place + i) (sym (long ∙ ap (size Rules) v))

          by : (own : List Term) → drop place text ≡ encodings Rules own → AllFit (length m.terms) own → pending ≡ map (present m.terms) own → Some (Var k) ≡ first_of own → Enters k
          by [] d f q h = absurd cc
          by (var x ∷ ts) d f q h =
              let same : x ≡ k = cc in
              let low : k < length m.terms = omega (arith, f.0) in
              record {
                low = omega (arith, m.listed.within);
                into =
                    record {
                      terms = m.terms;
                      listed = m.listed;
                      own = ts;
                      in_text = ap (λ p. drop p text) (sym behind) ∙ ahead place text (0x02 ∷ x ∷ []) (encodings Rules ts) d;
                      declared = f.1;
                      short = m.short;
                      due = cell m.terms k ∷ [];
                      in_slip = record { some = omega arith; stand = m.listed.stand k low; counted = refl };
                      is = q ∙ ap (λ y. cell m.terms y ∷ map (present m.terms) ts) same;
                    };
              }
          by (atom b ∷ ts) d f q h = absurd cc
          by (pair s t ∷ ts) d f q h = absurd cc

-- ── how much is to come ──

text_few : (ts : List Term) → length ts ≤ length (encodings Rules ts)
text_few [] = omega arith
text_few (var x ∷ ts) = omega (arith, text_few ts)
text_few (atom a ∷ ts) = omega (arith, text_few ts)
text_few (pair s t ∷ ts) = omega (arith, text_few ts, length-append (encoding Rules s ++ encoding Rules t) (encodings Rules ts))

pub few_come : {slip table text : List ℕ} {first place : ℕ} {inside : Option Inside} {pending : List Term} → Means slip table text first place inside pending → length pending ≤ length slip + 517
few_come {slip} {table} {text} {first} {place} {inside} {pending} m =
    let a = due_few inside m.due m.in_slip in
    let b = text_few m.own in
    let d = ap length m.in_text in
    let e = ap length m.is in
    let l = m.short in
    omega (arith, length-append m.due (map (present m.terms) m.own), length-map m.own (present m.terms), length-drop place text)
  where
    due_few : (o : Option Inside) (ts : List Term) → Due slip o ts → length ts ≤ length slip
    due_few None ts e = omega (arith, ap length e)
    due_few (Some i) ts k = omega (arith, few slip i.place ts k.stand)
