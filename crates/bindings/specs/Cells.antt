-- The cells of the variables in use. Assumes nothing.
use Rattle.std.specs.Prelude.{Option}
use Rattle.bindings.specs.declared.Binding.{Binding}

-- the variable's binding, or none where it is free
abbrev pub Cell : Type 0
Cell = Option Binding
