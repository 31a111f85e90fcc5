-- What slots ask of a search, and what they then hold. Assumes nothing.
use Rattle.std.specs.Prelude.{ℕ, List, [], vec_items, Some, None, Option as Maybe}
use Rattle.std.proofs.Math.Option.{Option, none, some}
use Rattle.slips.specs.Runs.{Request as Asked, to_next, to_rewind, to_tally, to_hold, to_answer, to_slip, Reply as Returned, told, rewound, tallied, held, wrote}
use Rattle.engine.specs.declared.slots.Request.{Request}
use Rattle.engine.specs.declared.slots.Request.TheVariants.{Next, Rewind, Tally, Hold, Answer, Slip}
use Rattle.engine.specs.declared.slots.Reply.{Reply}
use Rattle.engine.specs.declared.slots.Reply.TheVariants.{Next as Told, Rewound, Tallied, Held, Wrote}
use Rattle.engine.specs.declared.slots.Slot.{Slot}

-- a call with the bytes of its buffer
abbrev pub request_with : Request → List ℕ → Asked
request_with (Next a) bytes = to_next a
request_with Rewind bytes = to_rewind
request_with Tally bytes = to_tally
request_with Hold bytes = to_hold
request_with Answer bytes = to_answer bytes
request_with Slip bytes = to_slip bytes

-- the call of a slot
abbrev pub asked : Slot → Asked
asked s = request_with s.request (vec_items s.buffer)

-- a reply, where there is one, with what the buffer holds
abbrev pub reply_with : Maybe Reply → List ℕ → Option Returned
reply_with None bytes = none
reply_with (Some (Told r)) bytes = some (told r)
reply_with (Some Rewound) bytes = some rewound
reply_with (Some (Tallied t)) bytes = some (tallied t)
reply_with (Some (Held r)) bytes = some (held r)
reply_with (Some (Wrote r)) bytes = some (wrote r bytes)

-- what a slot's call returned, with what its buffer then holds; nothing where it was not carried out
abbrev pub returned : Slot → Option Returned
returned s = reply_with s.reply (vec_items s.buffer)

-- the bytes that a call has no business with
abbrev pub untouched_by : Request → List ℕ → List ℕ
untouched_by (Next a) bytes = bytes
untouched_by Rewind bytes = bytes
untouched_by Tally bytes = bytes
untouched_by Hold bytes = bytes
untouched_by Answer bytes = []
untouched_by Slip bytes = []

-- what a slot keeps: its call, and its buffer where the call does not write
abbrev pub keeps : Slot → Request × List ℕ
keeps s = (s.request, untouched_by s.request (vec_items s.buffer))
