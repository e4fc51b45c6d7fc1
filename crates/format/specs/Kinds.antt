-- The kinds of T and P lines, each with its name and its number; any other number is no kind.
use Rattle.std.specs.Prelude.{ℕ, zero, suc}

-- "T: 0 unit (a = b = 0); 1 sum; 2 product of types a and b", and request 14: "T kind 3 (a the element, b 0)"
pub data TypeKind : Type 0 where
  unit_type : TypeKind
  sum_type : TypeKind
  product_type : TypeKind
  list_type : TypeKind
  no_type : TypeKind

abbrev pub type_kind : ℕ → TypeKind
type_kind zero = unit_type
type_kind (suc zero) = sum_type
type_kind (suc (suc zero)) = product_type
type_kind (suc (suc (suc zero))) = list_type
type_kind (suc (suc (suc (suc k)))) = no_type

-- "P: 0 unit (a = b = 0); 1 variable number a, 0 to 31 (b = 0); 2 left of a (b = 0); 3 right of a (b = 0); 4 pair a, b", and
-- request 14: "P kinds 5 empty (a = b = 0) and 6 an element before a list"
pub data PatternKind : Type 0 where
  unit_pattern : PatternKind
  variable_pattern : PatternKind
  left_pattern : PatternKind
  right_pattern : PatternKind
  pair_pattern : PatternKind
  empty_pattern : PatternKind
  element_pattern : PatternKind
  no_pattern : PatternKind

abbrev pub pattern_kind : ℕ → PatternKind
pattern_kind zero = unit_pattern
pattern_kind (suc zero) = variable_pattern
pattern_kind (suc (suc zero)) = left_pattern
pattern_kind (suc (suc (suc zero))) = right_pattern
pattern_kind (suc (suc (suc (suc zero)))) = pair_pattern
pattern_kind (suc (suc (suc (suc (suc zero))))) = empty_pattern
pattern_kind (suc (suc (suc (suc (suc (suc zero)))))) = element_pattern
pattern_kind (suc (suc (suc (suc (suc (suc (suc k))))))) = no_pattern
