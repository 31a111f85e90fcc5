-- Lists of calls on a search: what each returns, and the answers given. Assumes nothing.
use Rattle.std.specs.Prelude.{ℕ, List, [], ◌∷◌, Ok, Err, Result}
use Rattle.terms.specs.Terms.{Rule, Query}
use Rattle.resolution.specs.declared.Word.{Word}
use Rattle.resolution.specs.declared.Word.TheVariants.{Answer, Spent, Stopped, NoMore}
use Rattle.resolution.specs.declared.Outcome.{Outcome}
use Rattle.resolution.specs.declared.Refusal.{Refusal}
use Rattle.resolution.specs.declared.Tally.{Tally}
use Rattle.resolution.specs.Lines.{Place}
use Rattle.resolution.specs.Search.{Search, opened, Called, next, rewind, tally}

-- a call that only looks at the search and leaves it as it was
pub data Look : Type 0 where
  at_tally : Look

-- what such a call returns
pub data Seen : Type 0 where
  seen_tally : Tally → Seen

abbrev pub seen : Look → Search → Seen
seen at_tally s = seen_tally (tally s)

pub data Call : Type 0 where
  ask_next : ℕ → Call
  ask_rewind : Call
  ask : Look → Call

-- what a call returns
pub data Reply : Type 0 where
  said : Result Outcome Refusal → Reply
  restored : Reply
  saw : Seen → Reply

abbrev pub reply : List Rule → Call → Search → Reply
reply rs (ask_next a) s = said (next rs a s).result
reply rs ask_rewind s = restored
reply rs (ask l) s = saw (seen l s)

-- a search with the places of the answers that it gave since opening or the last rewind, newest first
pub record Session : Type 0 where
  pub search : Search
  pub given : List Place

abbrev pub begun : Query → Session
begun q = record { search = opened q; given = [] }

-- the word answer gives the place at which the search then stands
abbrev pub given_by : Word → Place → List Place → List Place
given_by Answer p ps = p ∷ ps
given_by Spent p ps = ps
given_by (Stopped why) p ps = ps
given_by NoMore p ps = ps

abbrev pub given_with : Result Outcome Refusal → Place → List Place → List Place
given_with (Ok o) p ps = given_by o.word p ps
given_with (Err e) p ps = ps

abbrev pub called : Called → List Place → Session
called c ps = record { search = c.search; given = given_with c.result c.search.place ps }

-- the session after a call
abbrev pub after_call : List Rule → Query → Call → Session → Session
after_call rs q (ask_next a) z = called (next rs a z.search) z.given
after_call rs q ask_rewind z = record { search = rewind q z.search; given = [] }
after_call rs q (ask l) z = z

abbrev pub after_calls : List Rule → Query → List Call → Session → Session
after_calls rs q [] z = z
after_calls rs q (c ∷ cs) z = after_calls rs q cs (after_call rs q c z)

-- the session that a list of calls leads to from opening
abbrev pub session : List Rule → Query → List Call → Session
session rs q cs = after_calls rs q cs (begun q)

-- what each of the calls returns
abbrev pub replies : List Rule → Query → List Call → Session → List Reply
replies rs q [] z = []
replies rs q (c ∷ cs) z = reply rs c z.search ∷ replies rs q cs (after_call rs q c z)

abbrev pub run : List Rule → Query → List Call → List Reply
run rs q cs = replies rs q cs (begun q)
