-- Bytes put into a sink. Assumes nothing.
use Rattle.std.specs.Prelude.{◌≡◌, ℕ, ◌+◌, ◌<◌, ◌≤◌, Bool, true, false, cond, List, length, Some, None, Option, Ok, Err, Result, nat_le}
use Rattle.bindings.specs.Overlays.{laid}
use Rattle.machine.specs.declared.sink.NoRoom.{NoRoom}
use Rattle.machine.specs.declared.sink.Sink.{Sink}

-- the bytes are in: they are counted, and stand in the buffer where the sink s writes
pub record Took (s s' : Sink) (bs : List ℕ) : Type 0 where
  pub fits : s.count + length bs ≤ length s.buffer.now
  pub count : s'.count ≡ s.count + length bs
  pub buffer : s'.buffer.now ≡ cond s.writing (laid s.count bs s.buffer.now) s.buffer.now

-- the bytes are too many; a sink that only counts leaves the buffer as it was
pub record Refused (s s' : Sink) (bs : List ℕ) : Type 0 where
  pub over : length s.buffer.now < s.count + length bs
  pub buffer : s.writing ≡ false → s'.buffer.now ≡ s.buffer.now

abbrev pub PutSays : Sink → Sink → List ℕ → Result Unit NoRoom → Type 0
PutSays s s' bs (Ok u) = Took s s' bs
PutSays s s' bs (Err e) = Refused s s' bs

-- the bytes are put into s, which is then s', where they have room
pub record Puts (s s' : Sink) (bs : List ℕ) (r : Result Unit NoRoom) : Type 0 where
  pub writing : s'.writing ≡ s.writing
  pub same : s'.buffer.ghost_name ≡ s.buffer.ghost_name
  pub many : length s'.buffer.now ≡ length s.buffer.now
  pub says : PutSays s s' bs r

-- ── all the bytes of a term ──

-- how many bytes there are, where the buffer has room for them
abbrev pub fitting : List ℕ → List ℕ → Option ℕ
fitting bs buffer = cond (nat_le (length bs) (length buffer)) (Some (length bs)) None

-- the buffer with them at its beginning; as it was where it has no room
abbrev pub written : List ℕ → List ℕ → List ℕ
written bs buffer = cond (nat_le (length bs) (length buffer)) (laid 0 bs buffer) buffer

-- the bytes went through a sink over the buffer, which only counted or wrote as well
pub record Passed (writes : Bool) (buffer buffer' bs : List ℕ) (r : Option ℕ) : Type 0 where
  pub told : r ≡ fitting bs buffer
  pub counted : writes ≡ false → buffer' ≡ buffer
  pub wrote : writes ≡ true → length bs ≤ length buffer → buffer' ≡ laid 0 bs buffer
