-- The levels of the forms of expressions.
use Rattle.std.specs.Prelude.{ℕ, ◌==◌, Bool, List, [], ◌∷◌, Option, Some, None, codes, if◌then◌else◌}
use Rattle.std.specs.Prelude.{unwrap_or}
use Rattle.std.specs.List.{list_any}
use Rattle.case_table.specs.Tables.{value_of}
use Rattle.mdl_lexer.specs.WordTables.{reserved, marks}
use Rattle.mdl_syntax.specs.Trees.{Tree, unary, binary, conditional, indexed}
use Rattle.mdl_syntax.specs.Trees.{field, binding}

-- the number of a mark, and of a reserved word
abbrev pub mark_number : List ℕ → ℕ
mark_number text = unwrap_or (value_of marks text) 0

abbrev pub reserved_number : List ℕ → ℕ
reserved_number text = unwrap_or (value_of reserved text) 0

abbrev pub unary_operators : List (List ℕ)
unary_operators = codes "+" ∷ codes "-" ∷ codes "~" ∷ codes "!" ∷ []

-- binary operators, each with its level
abbrev pub binary_operators : List (List ℕ × ℕ)
binary_operators =
    (codes "||", 2) ∷ (codes "&&", 3) ∷ (codes "|", 4) ∷ (codes "^", 5) ∷ (codes "&", 6)
    ∷ (codes "==", 7) ∷ (codes "!=", 7)
    ∷ (codes "<", 8) ∷ (codes "<=", 8) ∷ (codes ">", 8) ∷ (codes ">=", 8)
    ∷ (codes "<<", 9) ∷ (codes ">>", 9) ∷ (codes ">>>", 9)
    ∷ (codes "+", 10) ∷ (codes "-", 10)
    ∷ (codes "*", 11) ∷ (codes "/", 11) ∷ (codes "%", 11) ∷ []

abbrev pub is_unary : ℕ → Bool
is_unary op = list_any (λ text. mark_number text == op) unary_operators

abbrev pub level_among : List (List ℕ × ℕ) → ℕ → Option ℕ
level_among [] op = None
level_among (row ∷ rows) op = if mark_number row.0 == op then Some row.1 else level_among rows op

-- the level of a binary operator
abbrev pub binary_level : ℕ → Option ℕ
binary_level op = level_among binary_operators op

-- the reserved words that name types
abbrev pub type_names : List (List ℕ)
type_names =
    codes "bool" ∷ codes "bool2" ∷ codes "bool3" ∷ codes "bool4" ∷ codes "int" ∷ codes "int2" ∷ codes "int3"
    ∷ codes "int4" ∷ codes "float" ∷ codes "float2" ∷ codes "float3" ∷ codes "float4" ∷ codes "float2x2"
    ∷ codes "float3x3" ∷ codes "float4x4" ∷ codes "double" ∷ codes "double2" ∷ codes "double3"
    ∷ codes "double4" ∷ codes "color" ∷ codes "string" ∷ codes "texture_2d" ∷ codes "texture_3d"
    ∷ codes "texture_cube" ∷ codes "texture_ptex" ∷ codes "light_profile" ∷ codes "bsdf_measurement"
    ∷ codes "bsdf" ∷ codes "edf" ∷ codes "vdf" ∷ codes "hair_bsdf" ∷ codes "material" ∷ []

abbrev pub is_type_word : ℕ → Bool
is_type_word number = list_any (λ text. reserved_number text == number) type_names

-- the level of an expression by its form
abbrev pub level : Tree → ℕ
level (binding _ _ _ _) = 0
level (conditional _ _ _ _) = 1
level (binary op left right span) = unwrap_or (binary_level op) 0
level (unary _ _ _) = 12
level (indexed _ _ _) = 13
level (field _ _ _) = 13
level _ = 14
