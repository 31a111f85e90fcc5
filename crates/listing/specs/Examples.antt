-- Worked examples of listings, by computation. Assumes nothing.
use Rattle.std.specs.Prelude.{◌≡◌, ℕ, List, [], ◌∷◌, map, codes}
use Rattle.std.specs.List.{flat_map}
use Rattle.terms.specs.Terms.{Rule, Query}
use Rattle.grammar.specs.Encodings.{rule_bytes, query_bytes}
use Rattle.resolution.specs.Examples.{chain, from_5, before_7, twins, inside_itself, no_goals, circle, ask_circle}
use Rattle.listing.specs.Listings.{listing}
use Rattle.listing.specs.Printed.{row_text}

-- what is printed of the rows for these bytes
abbrev pub printed : List ℕ → List ℕ → List (List ℕ)
printed bs qs = map row_text (listing bs qs)

-- the same for a book of these rules
abbrev pub lines : List Rule → Query → List (List ℕ)
lines rs q = printed (flat_map rule_bytes rs) (query_bytes q)

pub record Worked : Type 0 where
  pub path : lines chain from_5 ≡ codes "answer,4,2 0" ∷ codes "answer,10,3 0 2 1" ∷ codes "none,22," ∷ []
  pub two_goals : lines chain before_7 ≡ codes "answer,6,2 0 1" ∷ codes "none,38," ∷ []
  pub inside_itself_fails : lines twins inside_itself ≡ codes "none,1," ∷ []
  pub no_steps : lines [] no_goals ≡ codes "answer,0," ∷ codes "none,0," ∷ []
  pub deep : lines (circle 5 0 ∷ []) (ask_circle 5 0) ≡ codes "deep,512," ∷ []
  pub cells : lines (circle 6 64 ∷ []) (ask_circle 6 1) ≡ codes "cells,31," ∷ []
  pub book_refused : printed (0x11 ∷ 0x00 ∷ 0x10 ∷ []) [] ≡ codes "refused,3,2" ∷ []
  pub query_refused : printed [] (0x12 ∷ 0x00 ∷ 0x01 ∷ 0x00 ∷ 0x00 ∷ []) ≡ codes "refused,8,5" ∷ []
