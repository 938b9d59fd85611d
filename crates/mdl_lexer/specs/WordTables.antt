-- The reserved words and the marks, each with its number. No number is used twice.
use Rattle.std.specs.Prelude.{ℕ, ◌==◌, ◌&&◌, not, Bool, true, List, [], ◌∷◌, ◌++◌, codes, map}
use Rattle.std.specs.List.{list_any}

-- reserved words of the language
abbrev pub reserved_in_use : List (List ℕ × ℕ)
reserved_in_use =
    (codes "annotation", 0) ∷ (codes "bool", 1) ∷ (codes "bool2", 2) ∷ (codes "bool3", 3)
    ∷ (codes "bool4", 4) ∷ (codes "bsdf", 5) ∷ (codes "bsdf_measurement", 6) ∷ (codes "color", 7)
    ∷ (codes "double", 8) ∷ (codes "double2", 9) ∷ (codes "double3", 10) ∷ (codes "double4", 11)
    ∷ (codes "edf", 12) ∷ (codes "enum", 13) ∷ (codes "export", 14) ∷ (codes "false", 15)
    ∷ (codes "float", 16) ∷ (codes "float2", 17) ∷ (codes "float2x2", 18) ∷ (codes "float3", 19)
    ∷ (codes "float3x3", 20) ∷ (codes "float4", 21) ∷ (codes "float4x4", 22)
    ∷ (codes "hair_bsdf", 23) ∷ (codes "import", 24) ∷ (codes "in", 25) ∷ (codes "int", 26)
    ∷ (codes "int2", 27) ∷ (codes "int3", 28) ∷ (codes "int4", 29) ∷ (codes "let", 30)
    ∷ (codes "light_profile", 31) ∷ (codes "material", 32) ∷ (codes "mdl", 33)
    ∷ (codes "module", 34) ∷ (codes "string", 35) ∷ (codes "struct", 36)
    ∷ (codes "texture_2d", 37) ∷ (codes "texture_3d", 38) ∷ (codes "texture_cube", 39)
    ∷ (codes "texture_ptex", 40) ∷ (codes "true", 41) ∷ (codes "uniform", 42)
    ∷ (codes "using", 43) ∷ (codes "varying", 44) ∷ (codes "vdf", 45) ∷ []

-- reserved words that no form uses
abbrev pub reserved_left_out : List (List ℕ × ℕ)
reserved_left_out =
    (codes "break", 100) ∷ (codes "case", 101) ∷ (codes "cast", 102) ∷ (codes "const", 103)
    ∷ (codes "continue", 104) ∷ (codes "default", 105) ∷ (codes "do", 106)
    ∷ (codes "double2x2", 107) ∷ (codes "double2x3", 108) ∷ (codes "double2x4", 109)
    ∷ (codes "double3x2", 110) ∷ (codes "double3x3", 111) ∷ (codes "double3x4", 112)
    ∷ (codes "double4x2", 113) ∷ (codes "double4x3", 114) ∷ (codes "double4x4", 115)
    ∷ (codes "else", 116) ∷ (codes "float2x3", 117) ∷ (codes "float2x4", 118)
    ∷ (codes "float3x2", 119) ∷ (codes "float3x4", 120) ∷ (codes "float4x2", 121)
    ∷ (codes "float4x3", 122) ∷ (codes "for", 123) ∷ (codes "if", 124) ∷ (codes "return", 125)
    ∷ (codes "switch", 126) ∷ (codes "typedef", 127) ∷ (codes "while", 128) ∷ []

-- marks of the language
abbrev pub marks_in_use : List (List ℕ × ℕ)
marks_in_use =
    (codes "!", 200) ∷ (codes "!=", 201) ∷ (codes "%", 202) ∷ (codes "&", 203)
    ∷ (codes "&&", 204) ∷ (codes "(", 205) ∷ (codes ")", 206) ∷ (codes "*", 207)
    ∷ (codes "+", 208) ∷ (codes ",", 209) ∷ (codes "-", 210) ∷ (codes ".", 211)
    ∷ (codes "/", 212) ∷ (codes ":", 213) ∷ (codes "::", 214) ∷ (codes ";", 215)
    ∷ (codes "<", 216) ∷ (codes "<<", 217) ∷ (codes "<=", 218) ∷ (codes "=", 219)
    ∷ (codes "==", 220) ∷ (codes ">", 221) ∷ (codes ">=", 222) ∷ (codes ">>", 223)
    ∷ (codes ">>>", 224) ∷ (codes "?", 225) ∷ (codes "[", 226) ∷ (codes "]", 227)
    ∷ (codes "^", 228) ∷ (codes "{", 229) ∷ (codes "|", 230) ∷ (codes "||", 231)
    ∷ (codes "}", 232) ∷ (codes "~", 233) ∷ []

-- marks that no form uses
abbrev pub marks_left_out : List (List ℕ × ℕ)
marks_left_out =
    (codes "%=", 300) ∷ (codes "&=", 301) ∷ (codes "*=", 302) ∷ (codes "++", 303)
    ∷ (codes "+=", 304) ∷ (codes "--", 305) ∷ (codes "-=", 306) ∷ (codes "/=", 307)
    ∷ (codes "<<=", 308) ∷ (codes ">>=", 309) ∷ (codes ">>>=", 310) ∷ (codes "^=", 311)
    ∷ (codes "|=", 312) ∷ []

-- the words of both tables
abbrev pub reserved : List (List ℕ × ℕ)
reserved = reserved_in_use ++ reserved_left_out

abbrev pub marks : List (List ℕ × ℕ)
marks = marks_in_use ++ marks_left_out

-- no two of these numbers are equal
abbrev pub are_apart : List ℕ → Bool
are_apart [] = true
are_apart (number ∷ numbers) = not (list_any (λ other. other == number) numbers) && are_apart numbers

abbrev pub numbers : List ℕ
numbers = map (λ (row : List ℕ × ℕ). row.1) (reserved ++ marks)
