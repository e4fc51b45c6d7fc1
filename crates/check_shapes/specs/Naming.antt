-- Which T lines name no parts.
use Rattle.std.specs.Prelude.{ℕ, Bool, true, false}
use Rattle.format.specs.Kinds.{TypeKind, unit_type, sum_type, product_type, list_type, no_type, type_kind}

abbrev pub names_nothing_of : TypeKind → Bool
names_nothing_of unit_type = true
names_nothing_of sum_type = false
names_nothing_of product_type = false
names_nothing_of list_type = false
names_nothing_of no_type = true

abbrev pub names_nothing : ℕ → Bool
names_nothing k = names_nothing_of (type_kind k)
