-- The constant that a view is, if it is one. Assumes nothing: this is a definition.
use Rattle.std.specs.Prelude.{ℕ, None, Option, Some}
use Rattle.rules.specs.declared.View.{View}

abbrev pub view_constant : View → Option ℕ
view_constant (View.Constant v) = Some v
view_constant (View.Plus a) = None
view_constant (View.Minus a) = None
view_constant View.Negation = None
view_constant (View.Extension c) = None
view_constant View.Other = None
