-- Bytes put into a sink one after the other. Assumes nothing.
use Rattle.std.proofs.Common.{◌≡◌, ℕ, ◌+◌, ◌<◌, ◌≤◌, Bool, true, false, cond, List, [], ◌∷◌, ◌++◌, length, set, Ok, Err, Result, IsErr, sym, refl, ap, ◌∙◌, arith, length-append, length-set}
use Rattle.std.proofs.lemmas.Bool.{false≢true}
use Rattle.bindings.specs.Overlays.{laid}
use Rattle.bindings.proofs.Overlays.{laid_nothing, laid_one, laid_then}
use Rattle.machine.specs.declared.sink.NoRoom.{NoRoom}
use Rattle.machine.specs.declared.sink.Sink.{Sink}
use Rattle.machine.specs.Sinks.{Puts}

-- ── one byte ──

-- a sink that counts one byte more
abbrev counted : Sink → Sink
counted u = record { buffer = u.buffer; count = u.count + 1; writing = u.writing }

set_many : (b : Bool) (k x : ℕ) (xs : List ℕ) → length (cond b (set xs k x) xs) ≡ length xs
set_many true k x xs = length-set xs k x
set_many false k x xs = refl

pub one_put : (s u : Sink) (b : ℕ) → u.count ≡ s.count → u.writing ≡ s.writing → u.buffer.ghost_name ≡ s.buffer.ghost_name
    → u.buffer.now ≡ cond s.writing (set s.buffer.now s.count b) s.buffer.now
    → s.count < length s.buffer.now → Puts s (counted u) (b ∷ []) (Ok tt)
one_put s u b c w n e h =
    record {
      writing = w;
      same = n;
      many = ap length e ∙ set_many s.writing s.count b s.buffer.now;
      says =
          record {
            fits = omega (arith, h);
            count = omega (arith, c);
            buffer = e ∙ ap (λ (l : List ℕ). cond s.writing l s.buffer.now) (sym (laid_one s.count b s.buffer.now));
          };
    }

-- ── one after the other ──

nothing_laid : (b : Bool) (k : ℕ) (xs : List ℕ) → xs ≡ cond b (laid k [] xs) xs
nothing_laid true k xs = sym (laid_nothing k xs)
nothing_laid false k xs = refl

pub puts_nothing : (s : Sink) → s.count ≤ length s.buffer.now → Puts s s [] (Ok tt)
puts_nothing s h =
    record {
      writing = refl;
      same = refl;
      many = refl;
      says = record { fits = omega (arith, h); count = omega arith; buffer = nothing_laid s.writing s.count s.buffer.now };
    }

-- A sink that took bytes is not past its buffer.
pub puts_room : {s u : Sink} {bs : List ℕ} {o : Unit} → Puts s u bs (Ok o) → u.count ≤ length u.buffer.now
puts_room p = omega (arith, p.says.fits, p.says.count, p.many)

buffers : (b : Bool) (k m : ℕ) (cs bs xs ys : List ℕ) → m ≡ k + length cs → ys ≡ cond b (laid k cs xs) xs
    → cond b (laid m bs ys) ys ≡ cond b (laid k (cs ++ bs) xs) xs
buffers true k m cs bs xs ys e q = ap (laid m bs) q ∙ laid_then k m cs bs xs e
buffers false k m cs bs xs ys e q = q

module _ {s u : Sink} {cs : List ℕ} where
  -- Bytes that are in, and then others.
  pub puts_then : {w : Sink} {bs : List ℕ} {o : Unit} {r : Result Unit NoRoom} → Puts s u cs (Ok o) → Puts u w bs r → Puts s w (cs ++ bs) r
  puts_then {w = w} {bs = bs} {r = Ok n} e f =
      let l = length-append cs bs in
      record {
        writing = f.writing ∙ e.writing;
        same = f.same ∙ e.same;
        many = f.many ∙ e.many;
        says =
            record {
              fits = omega (arith, e.says.fits, f.says.fits, e.says.count, e.many, l);
              count = omega (arith, f.says.count, e.says.count, l);
              buffer =
                  f.says.buffer
                  ∙ ap (λ (b : Bool). cond b (laid u.count bs u.buffer.now) u.buffer.now) e.writing
                  ∙ buffers s.writing s.count u.count cs bs s.buffer.now u.buffer.now e.says.count e.says.buffer;
            };
      }
  puts_then {w = w} {bs = bs} {r = Err n} e f =
      let l = length-append cs bs in
      record {
        writing = f.writing ∙ e.writing;
        same = f.same ∙ e.same;
        many = f.many ∙ e.many;
        says =
            record {
              over = omega (arith, f.says.over, e.says.count, e.many, l);
              buffer = λ counts.
                  f.says.buffer (e.writing ∙ counts)
                  ∙ e.says.buffer
                  ∙ ap (λ (b : Bool). cond b (laid s.count cs s.buffer.now) s.buffer.now) counts;
            };
      }

  -- Where some bytes have no room, more have none.
  pub puts_over : {n m : NoRoom} (bs : List ℕ) → Puts s u cs (Err n) → Puts s u (cs ++ bs) (Err m)
  puts_over bs e =
      let l = length-append cs bs in
      record {
        writing = e.writing;
        same = e.same;
        many = e.many;
        says = record { over = omega (arith, e.says.over, l); buffer = e.says.buffer };
      }

-- What holds of each refusal holds of a result that is one.
pub refused : (P : Result Unit NoRoom → Type 0) {r : Result Unit NoRoom} → IsErr r → ((e : NoRoom) → P (Err e)) → P r
refused P {r = Ok u} e p = absurd (false≢true e)
refused P {r = Err n} e p = p n
