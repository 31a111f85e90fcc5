-- The first command of terms, in a slip and in a text. Assumes nothing.
use Rattle.std.proofs.Common.{◌≡◌, ℕ, zero, suc, ◌+◌, ◌-◌, ◌/◌, ◌%◌, ◌<◌, ◌≤◌, Bool, true, false, cond, ltb, List, [], ◌∷◌, ◌++◌, length, get_or, drop, Some, None, Ok, Option, sym, refl, ap, ◌∙◌, subst, append_assoc, add-zero, arith, length-append, length-drop}
use Rattle.std.specs.Bool.{then_some}
use Rattle.std.proofs.lemmas.Nat.{div-add-mod'}
use Rattle.std.proofs.lemmas.List.{get_or-drop}
use Rattle.std.proofs.lemmas.Bool.{ltb-true, lt-ltb, le-ltb}
use Rattle.terms.specs.declared.Form.TheVariants.{Rules, Slips}
use Rattle.terms.specs.Terms.{Term, var, atom, pair}
use Rattle.terms.specs.Bytes.{two, encoding, encodings}
use Rattle.grammar.specs.declared.commands.Command.{Command}
use Rattle.grammar.specs.declared.commands.Command.TheVariants.{Atom, Var, Pair}
use Rattle.reading.specs.Taking.{first_command, size}
use Rattle.stores.specs.Answers.{byte_at}
use Rattle.slips.proofs.Written.{ahead}
use Rattle.comparing.specs.Streams.{first_of, after_first, due_after, text_first}
use Rattle.comparing.specs.declared.Inside.{Inside}
use Rattle.comparing.specs.Cursors.{Stands, DueAt, Due, Went}

-- ── in a slip ──

-- the first command of terms that stand at p, read there
pub record Front (slip : List ℕ) (p : ℕ) (ts : List Term) : Type 0 where
  pub command : Command
  pub read : first_command Slips p (drop p slip) ≡ Ok (Some command)
  pub first : Some command ≡ first_of ts
  pub left : Stands slip (p + size Slips command) (after_first ts)
  pub counted : length (after_first ts) ≡ due_after (length ts - 1) command
  pub onward : p < p + size Slips command

pub front : (slip : List ℕ) (p : ℕ) (u : Term) (us : List Term) → Stands slip p (u ∷ us) → Front slip p (u ∷ us)
front slip p (var x) us s =
    record {
      command = Var x;
      read = ap (first_command Slips p) s.is ∙ ap (λ n. Ok (Some (Var n))) (div-add-mod' x 256);
      first = refl;
      left = record { rest = s.rest; is = ahead p slip (0x04 ∷ two x) (encodings Slips us ++ s.rest) s.is };
      counted = omega arith;
      onward = omega arith;
    }
front slip p (atom a) us s =
    record {
      command = Atom a;
      read = ap (first_command Slips p) s.is ∙ ap (λ n. Ok (Some (Atom n))) (div-add-mod' a 256);
      first = refl;
      left = record { rest = s.rest; is = ahead p slip (0x01 ∷ two a) (encodings Slips us ++ s.rest) s.is };
      counted = omega arith;
      onward = omega arith;
    }
front slip p (pair t u) us s =
    record {
      command = Pair;
      read = ap (first_command Slips p) s.is;
      first = refl;
      left =
          record {
            rest = s.rest;
            is =
                ahead p slip (0x03 ∷ []) (((encoding Slips t ++ encoding Slips u) ++ encodings Slips us) ++ s.rest) s.is
                ∙ ap (λ l. l ++ s.rest) (append_assoc (encoding Slips t) (encoding Slips u) (encodings Slips us));
          };
      counted = omega arith;
      onward = omega arith;
    }

-- each term has a byte at least
encoded_long : (ts : List Term) → length ts ≤ length (encodings Slips ts)
encoded_long [] = omega arith
encoded_long (var x ∷ ts) = omega (arith, encoded_long ts)
encoded_long (atom a ∷ ts) = omega (arith, encoded_long ts)
encoded_long (pair s t ∷ ts) = omega (arith, encoded_long ts, length-append (encoding Slips s ++ encoding Slips t) (encodings Slips ts))

-- terms that stand in a slip are no more than its bytes from there on
pub few : (slip : List ℕ) (p : ℕ) (ts : List Term) → Stands slip p ts → length ts ≤ length slip - p
few slip p ts s = omega (arith, ap length s.is, length-drop p slip, length-append (encodings Slips ts) s.rest, encoded_long ts)

module _ (slip : List ℕ) (i : Inside) where
  at_front : (ts : List Term) → DueAt slip i ts → Front slip i.place ts
  at_front [] s = let n = s.counted in let l = s.some in absurd (omega arith)
  at_front (u ∷ us) s = front slip i.place u us s.stand

  -- where terms are due, a command can be read
  pub front_there : ((ts : List Term) × DueAt slip i ts) → (c : Command) × (first_command Slips i.place (drop i.place slip) ≡ Ok (Some c)) × (i.place + i.due ≤ length slip)
  front_there x =
      let k = few slip i.place x.0 x.1.stand in
      let f = at_front x.0 x.1 in
      let n = x.1.counted in
      let l = x.1.some in
      (f.command, f.read, omega arith)

  -- and behind it the others stand, if any are due
  pub went_on : (c : Command) (q : ℕ) → Ok (Some c) ≡ first_command Slips i.place (drop i.place slip) → q ≡ i.place + size Slips c
      → (ts : List Term) → DueAt slip i ts → Went slip c (then_some (ltb 0 (due_after (i.due - 1) c)) (record { place = q; due = due_after (i.due - 1) c })) ts
  went_on c q e place ts s =
      let f = at_front ts s in
      let r = f.read in
      let same : f.command ≡ c = cc in
      record {
        first = ap Some (sym same) ∙ f.first;
        later =
            due_left (due_after (i.due - 1) c) (after_first ts)
            (subst (λ m. Stands slip m (after_first ts)) (ap (λ x. i.place + size Slips x) same ∙ sym place) f.left)
            (f.counted ∙ ap (λ m. due_after (m - 1) f.command) s.counted ∙ ap (due_after (i.due - 1)) same);
      }
    where
      due_left : (n : ℕ) (us : List Term) → Stands slip q us → length us ≡ n → Due slip (then_some (ltb 0 n) (record { place = q; due = n })) us
      due_left zero [] t k = refl
      due_left zero (u ∷ us) t k = absurd (omega arith)
      due_left (suc n) us t k = subst (λ b. Due slip (then_some b (record { place = q; due = suc n })) us) (sym (lt-ltb 0 (suc n) (omega arith))) (record { some = omega arith; stand = t; counted = k })

-- ── in a text ──

pub byte_front : (t : List ℕ) (p b : ℕ) (bs : List ℕ) → drop p t ≡ b ∷ bs → byte_at p t ≡ Some b
byte_front t p b bs d =
    let l : p < length t = omega (arith, ap length d, length-drop p t) in
    ap (λ c. cond c (Some (get_or t p 0)) None) (lt-ltb p (length t) l)
    ∙ ap (λ n. Some (get_or t n 0)) (sym (add-zero p))
    ∙ ap Some (sym (get_or-drop p t 0 0) ∙ ap (λ l. get_or l 0 0) d)

pub byte_end : (t : List ℕ) (p : ℕ) → drop p t ≡ [] → byte_at p t ≡ None
byte_end t p d =
    ap (λ c. cond c (Some (get_or t p 0)) None) (le-ltb p (length t) (omega (arith, ap length d, length-drop p t)))

pub text_front : (t : List ℕ) (p : ℕ) (ts : List Term) → drop p t ≡ encodings Rules ts → text_first t p ≡ first_of ts
text_front t p [] d = let b1 : byte_at p t ≡ None = byte_end t p d in rw b1 refl
text_front t p (var x ∷ ts) d =
    let b1 : byte_at p t ≡ Some 0x02 = byte_front t p 0x02 (x ∷ encodings Rules ts) d in
    let b2 : byte_at (p + 1) t ≡ Some x = byte_front t (p + 1) x (encodings Rules ts) (ahead p t (0x02 ∷ []) (x ∷ encodings Rules ts) d) in
    rw (b1, b2) refl
text_front t p (atom a ∷ ts) d =
    let b1 : byte_at p t ≡ Some 0x01 = byte_front t p 0x01 (two a ++ encodings Rules ts) d in
    let b2 : byte_at (p + 1) t ≡ Some (a / 256) = byte_front t (p + 1) (a / 256) (a % 256 ∷ encodings Rules ts) (ahead p t (0x01 ∷ []) (two a ++ encodings Rules ts) d) in
    let b3 : byte_at (p + 2) t ≡ Some (a % 256) = byte_front t (p + 2) (a % 256) (encodings Rules ts) (ahead p t (0x01 ∷ a / 256 ∷ []) (a % 256 ∷ encodings Rules ts) d) in
    rw (b1, b2, b3) (ap (λ n. Some (Atom n)) (div-add-mod' a 256))
text_front t p (pair s u ∷ ts) d =
    let b1 : byte_at p t ≡ Some 0x03 = byte_front t p 0x03 ((encoding Rules s ++ encoding Rules u) ++ encodings Rules ts) d in
    rw b1 refl

pub byte_inside : (t : List ℕ) (p b : ℕ) → Some b ≡ byte_at p t → p < length t
byte_inside t p b e = by (ltb p (length t)) refl e
  where
    by : (c : Bool) → ltb p (length t) ≡ c → Some b ≡ cond c (Some (get_or t p 0)) None → p < length t
    by true q h = ltb-true p (length t) q
    by false q h = absurd cc

pub text_inside : (t : List ℕ) (p : ℕ) (c : Command) → Some c ≡ text_first t p → p < length t
text_inside t p c e = by (byte_at p t) refl
  where
    by : (o : Option ℕ) → byte_at p t ≡ o → p < length t
    by (Some b) q = byte_inside t p b (sym q)
    by None q =
        let none : text_first t p ≡ None = (rw q refl) in
        absurd cc
