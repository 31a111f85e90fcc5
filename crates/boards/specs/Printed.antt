-- How refusals are printed. Assumes nothing.
use Rattle.std.specs.Prelude.{ℕ, List, ◌++◌, codes, decimal}
use Rattle.grammar.specs.Refusals.{or_dash}
use Rattle.boards.specs.Changes.{add_number, add_place, add_layer, remove_number}
use Rattle.boards.specs.declared.faults.AddFault.{AddFault}
use Rattle.boards.specs.declared.faults.RemoveFault.{RemoveFault}

-- number, place and layer
abbrev pub add_text : AddFault → List ℕ
add_text e = decimal (add_number e) ++ (codes "," ++ (or_dash (add_place e) ++ (codes "," ++ or_dash (add_layer e))))

abbrev pub remove_text : RemoveFault → List ℕ
remove_text e = decimal (remove_number e) ++ codes ",-,-"
