-- The bytes of rules, queries and books, and which of them are within the limits. Assumes nothing.
use Rattle.std.specs.Prelude.{ℕ, ◌<◌, ◌≤◌, List, [], ◌∷◌, ◌++◌, length}
use Rattle.terms.specs.declared.Form.TheVariants.{Rules}
use Rattle.terms.specs.Terms.{Term, Rule, Query}
use Rattle.terms.specs.Bytes.{two, encodings, AllFit}
use Rattle.grammar.specs.Singles.{rule_byte, query_byte, most_variables, most_goals, longest}
use Rattle.grammar.specs.Items.{Item, world, rule, world_byte, most_bytes, most_rules, rules}

-- each is a byte
abbrev pub AllBytes : List ℕ → Type 0
AllBytes [] = Unit {0}
AllBytes (b ∷ bs) = (b < 256) × AllBytes bs

-- a command byte, the number of variables, the number of goals, the length of the terms in two bytes, and the terms
abbrev pub framed : ℕ → ℕ → ℕ → List Term → List ℕ
framed byte v g ts = byte ∷ v ∷ g ∷ (two (length (encodings Rules ts)) ++ encodings Rules ts)

abbrev pub rule_bytes : Rule → List ℕ
rule_bytes r = framed rule_byte r.variables (length r.goals) (r.head ∷ r.goals)

abbrev pub query_bytes : Query → List ℕ
query_bytes q = framed query_byte q.variables (length q.goals) q.goals

-- within the limits: variables, goals, the length of the terms, and terms over the declared variables
pub record Within (v g : ℕ) (ts : List Term) : Type 0 where
  pub few_variables : v ≤ most_variables
  pub few_goals : g ≤ most_goals
  pub short : length (encodings Rules ts) ≤ longest
  pub declared : AllFit v ts

abbrev pub FitRule : Rule → Type 0
FitRule r = Within r.variables (length r.goals) (r.head ∷ r.goals)

abbrev pub FitQuery : Query → Type 0
FitQuery q = Within q.variables (length q.goals) q.goals

abbrev pub item_bytes : Item → List ℕ
item_bytes (world w) = world_byte ∷ w ∷ []
item_bytes (rule r) = rule_bytes r

abbrev pub book_bytes : List Item → List ℕ
book_bytes [] = []
book_bytes (i ∷ is) = item_bytes i ++ book_bytes is

abbrev pub FitItem : Item → Type 0
FitItem (world w) = w < 256
FitItem (rule r) = FitRule r

abbrev pub AllFitItems : List Item → Type 0
AllFitItems [] = Unit {0}
AllFitItems (i ∷ is) = FitItem i × AllFitItems is

pub record FitBook (is : List Item) : Type 0 where
  pub each : AllFitItems is
  pub few_rules : length (rules is) ≤ most_rules
  pub few_bytes : length (book_bytes is) ≤ most_bytes
