-- What a search means: its rules, its query, and the search of the definition. Assumes nothing.
use Rattle.std.specs.Prelude.{List}
use Rattle.terms.specs.Terms.{Rule, Query}
use Rattle.resolution.specs.Search.{Condition as DefinedCondition, running, standing, ended, stopped, Search as DefinedSearch}
use Rattle.slips.specs.Opening.{Opened}
use Rattle.machine.specs.Machines.{rules, query, place}
use Rattle.engine.specs.declared.search.Condition.{Condition}
use Rattle.engine.specs.declared.search.Condition.TheVariants.{Running, Standing, Ended, Stopped}
use Rattle.engine.specs.declared.search.Search.{Search}

abbrev pub condition_of : Condition → DefinedCondition
condition_of Running = running
condition_of Standing = standing
condition_of Ended = ended
condition_of (Stopped why) = stopped why

abbrev pub rules_of : Search → List Rule
rules_of s = rules s.machine

abbrev pub query_of : Search → Query
query_of s = query s.machine

-- the search that the definition speaks of
abbrev pub model : Search → DefinedSearch
model s = record { condition = condition_of s.condition; place = place s.machine; tries = s.tries; answers = s.answers }

-- what it was opened with
abbrev pub opened_with : Search → Opened
opened_with s = record { rules = rules_of s; query = query_of s }
