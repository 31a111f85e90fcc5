use Rattle.std.proofs.Common.{List, ℕ, Option, ap, ◌∙◌}
use Rattle.std.specs.Option.{ok_or}
use Rattle.slips.specs.declared.faults.WriteRefusal.TheVariants.{NoRoom}
use Rattle.slips.specs.Slips.{slip_of, answer_bytes}
use Rattle.engine.specs.declared.hands.Answer.{Answer}
use Rattle.engine.specs.Models.{rules_of, query_of, model}
use Rattle.engine.proofs.Buffers.{wrote_fitting}
use Rattle.engine.proofs.hands.Answer.answer.Goals as goal

-- what is to be written
abbrev due : Answer → List ℕ
due a = let s = a.search.now in answer_bytes (slip_of (rules_of s) (query_of s) (model s).place)

pub returns : goal.returns
returns c =
    wrote_fitting (due c.args.self.now) c.args.buffer.now c.write_answer.new.buffer _ (c.ok_or.ensures.value ∙ ap (λ (o : Option ℕ). ok_or o NoRoom) c.write_answer.ensures.length) c.write_answer.ensures.buffer
