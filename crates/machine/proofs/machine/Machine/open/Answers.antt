use Rattle.std.proofs.Common.{◌≡◌, ℕ, ◌≤◌, List, ◌++◌, length, None, Ok, sym, refl, ap, ap₂, ◌∙◌, arith, rules}
use Rattle.terms.specs.Terms.{Rule, Query}
use Rattle.resolution.specs.Search.{opened}
use Rattle.slips.specs.Opening.{rules_in, opening}
use Rattle.machine.specs.States.{State}
use Rattle.reading.specs.Views.{QueryView, query_view}
use Rattle.reading.proofs.Parts.{known}
use Rattle.machine.proofs.Openings.{Asked, asked_of, Open, opening_is, open_is}
use Rattle.machine.proofs.machine.Machine.open.Goals as goal
use Rattle.machine.proofs.machine.Machine.open.Goals.{After-new-2}
use Rattle.machine.proofs.machine.Machine.open.Given.{Over}

pub gather-requires : goal.gather-requires
gather-requires g c = omega (arith, c.count.ensures, c.if-count-gt-MOST_RULES.false)

module _ (g : Over) (c : After-new-2 g) where
  -- the rules of the store, the bytes of the query, and the query that was read
  abbrev texts : List (List ℕ)
  texts = g.S.Store.rules c.args.store.now

  abbrev bytes : List ℕ
  bytes = c.args.query.now

  asked : Asked bytes (query_view c.in_ok-asked.asked)
  asked = asked_of bytes (query_view c.in_ok-asked.asked) (known _ c.type_inv.query) c.in_ok-asked.ensures

  -- what it stands on
  abbrev here : State
  here =
      record {
        tables = record { text = c.gather.new.text; cells = c.new.result; branch = c.new-2.result };
        clauses = c.in_ok-clauses.clauses.items;
        question = record { place = 5; variables = c.in_ok-asked.asked.variables; goals = c.in_ok-asked.asked.goals };
        goals = c.goals-goals.result;
        due = 0;
      }

  few : length texts ≤ 1024
  few = omega (arith, c.count.ensures, c.if-count-gt-MOST_RULES.false)

  first : c.append.new.self.bytes ≡ bytes
  first = c.append.ensures ∙ ap (λ (x : List ℕ). x ++ bytes) c.new-text.ensures

  many : length c.new.result.table ≡ 2048
  many = search rules

  defined : opening texts bytes ≡ Ok (record { rules = rules_in texts; query = asked.is })
  defined =
      opening_is here texts bytes asked.is (g.S.Store.fit c.args.store.now) (known _ c.type_inv.query) asked.reads few c.append.new.self first
      c.in_ok-clauses.ensures

  opens : Open here (record { rules = rules_in texts; query = asked.is })
  opens =
      let variables : c.in_ok-asked.asked.variables ≡ asked.is.variables = ap (λ (v : QueryView). v.variables) asked.view in
      let goals : c.in_ok-asked.asked.goals ≡ length asked.is.goals = ap (λ (v : QueryView). v.goals) asked.view in
      open_is here texts bytes asked.is (g.S.Store.fit c.args.store.now) (known _ c.type_inv.query) asked.reads few c.append.new.self first
      c.in_ok-clauses.ensures c.new.ensures.free many (c.new.ensures.used ∙ c.from.ensures ∙ variables) c.new.ensures.newest c.new-2.ensures.taken c.new-2.ensures.depth variables refl goals
      (c.goals-goals.ensures ∙ ap (λ (k : ℕ). record { place = 5; level = 0; left = k; above = None }) goals) refl

pub invariant_of-result : goal.invariant_of-result
invariant_of-result g c = record { kept = (opens g (goal.at.invariant_of-result g c).After-new-2).kept }

pub returns : goal.returns
returns g c =
    let d = (goal.at.returns g c).After-new-2 in
    let o = opens g d in
    record {
      opened = ap₂ (λ (rs : List Rule) (q : Query). Ok (record { rules = rs; query = q })) o.rules o.query ∙ sym (defined g d);
      start = o.place ∙ ap (λ (q : Query). (opened q).place) (sym o.query);
    }
