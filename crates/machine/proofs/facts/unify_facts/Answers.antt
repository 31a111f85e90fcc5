use Rattle.std.proofs.Common.{Result, sym, ap, ◌∙◌, arith, rules}
use mathlib.Core.Option.{Option}
use Rattle.terms.specs.Terms.{Term}
use Rattle.grammar.specs.declared.faults.SingleFault.{SingleFault}
use Rattle.reading.specs.Views.{rule_view}
use Rattle.machine.specs.Facts.{told, buffer_with, outcome, buffer_after}
use Rattle.machine.proofs.Common.{Fact, fact, all_bytes, both_ready, both_few, both_common, both_read}
use Rattle.machine.proofs.facts.unify_facts.Goals as goal
use Rattle.machine.proofs.facts.unify_facts.Goals.{In_ok-rule, In_ok-fact}

left_fact : (c : In_ok-rule) → Fact c.args.left.now (rule_view c.in_ok-rule.rule)
left_fact c = fact c.args.left.now (rule_view c.in_ok-rule.rule) (all_bytes _ c.type_inv.left) c.in_ok-rule.ensures

right_fact : (c : In_ok-fact) → Fact c.args.right.now (rule_view c.in_ok-fact.fact)
right_fact c = fact c.args.right.now (rule_view c.in_ok-fact.fact) (all_bytes _ c.type_inv.right) c.in_ok-fact.ensures

pub load-tables-requires : goal.load-tables-requires
load-tables-requires c =
    let a = left_fact (goal.at.load-tables-requires c).In_ok-rule in
    let b = right_fact (goal.at.load-tables-requires c).In_ok-fact in
    omega (arith, a.short, b.short)

pub overflow_cast-head : goal.overflow_cast-head
overflow_cast-head c =
    let b = right_fact (goal.at.overflow_cast-head c).In_ok-fact in
    let s = b.short in
    search rules

pub settle-requires : goal.settle-requires
settle-requires c =
    let a = left_fact (goal.at.settle-requires c).In_ok-rule in
    let b = right_fact (goal.at.settle-requires c).In_ok-fact in
    let t = c.load-tables.result in
    let l = c.load-tables.ensures in
    record {
      ready = both_ready a b t.text.bytes t.cells l.text l.many l.free l.used l.newest;
      few = both_few a b t.text.bytes t.cells l.text l.many l.free l.used l.newest;
    }

pub returns : goal.returns
returns c =
    let a = left_fact (goal.at.returns c).In_ok-rule in
    let b = right_fact (goal.at.returns c).In_ok-fact in
    let t = c.load-tables.result in
    let l = c.load-tables.ensures in
    let is = both_common a b t.text.bytes t.cells l.text l.many l.free l.used l.newest in
    record {
      result =
          c.settle.ensures.told
          ∙ ap (λ (o : Option Term). told o c.args.buffer.now) is
          ∙ ap (λ (r : Result (Option Term) SingleFault). outcome r c.args.buffer.now) (sym (both_read a b));
      buffer =
          c.settle.ensures.buffer
          ∙ ap (λ (o : Option Term). buffer_with o c.args.buffer.now) is
          ∙ ap (λ (r : Result (Option Term) SingleFault). buffer_after r c.args.buffer.now) (sym (both_read a b));
    }
