-- The texts of the modules that every package sees without a file of their own.
use Rattle.std.specs.Prelude.{ℕ, List, [], ◌∷◌, Option, Some, None, codes, if◌then◌else◌}
use Rattle.std.specs.List.{concat}
use Rattle.std.specs.Str.{bytes_eq}
use Rattle.module_set.specs.declared.module_name.ModuleName.{ModuleName}

abbrev pub df_text : List ℕ
df_text = concat (
    codes "mdl 1.6;\n"
    ∷ codes "export enum scatter_mode { scatter_reflect, scatter_transmit, "
    ∷ codes "scatter_reflect_transmit };\n"
    ∷ codes "export struct bsdf_component { float weight = 0.0; bsdf component = bsdf(); };\n"
    ∷ codes "export bsdf diffuse_reflection_bsdf(color tint = color(1.0), float roughness = "
    ∷ codes "0.0);\n"
    ∷ codes "export bsdf diffuse_transmission_bsdf(color tint = color(1.0));\n"
    ∷ codes "export bsdf specular_bsdf(color tint = color(1.0), uniform scatter_mode mode = "
    ∷ codes "scatter_reflect);\n"
    ∷ codes "export bsdf simple_glossy_bsdf(float roughness_u, float roughness_v = "
    ∷ codes "roughness_u, color tint = color(1.0), uniform scatter_mode mode = "
    ∷ codes "scatter_reflect);\n"
    ∷ codes "export bsdf weighted_layer(float weight, bsdf layer = bsdf(), bsdf base = "
    ∷ codes "bsdf(), float3 normal = state_normal());\n"
    ∷ codes "export bsdf fresnel_layer(float ior, float weight = 1.0, bsdf layer = bsdf(), "
    ∷ codes "bsdf base = bsdf(), float3 normal = state_normal());\n"
    ∷ codes "export bsdf tint(color tint, bsdf base);\n"
    ∷ codes "export edf tint(color tint, edf base);\n"
    ∷ codes "export bsdf normalized_mix(bsdf_component[<n>] components);\n"
    ∷ codes "export bsdf clamped_mix(bsdf_component[<n>] components);\n"
    ∷ codes "export edf diffuse_edf();\n"
    ∷ codes "export vdf anisotropic_vdf(float directional_bias = 0.0);\n"
    ∷ [])

abbrev pub state_text : List ℕ
state_text = concat (
    codes "mdl 1.6;\n"
    ∷ codes "export float3 normal() = state_normal();\n"
    ∷ codes "export float3 position() varying;\n"
    ∷ codes "export float3 geometry_normal() varying;\n"
    ∷ codes "export float3 texture_coordinate(uniform int index) varying;\n"
    ∷ codes "export float3 texture_tangent_u(uniform int index) varying;\n"
    ∷ codes "export float3 texture_tangent_v(uniform int index) varying;\n"
    ∷ [])

abbrev pub math_text : List ℕ
math_text = concat (
    codes "mdl 1.6;\n"
    ∷ codes "export float abs(float a);\n"
    ∷ codes "export float min(float a, float b);\n"
    ∷ codes "export float max(float a, float b);\n"
    ∷ codes "export float clamp(float a, float min, float max);\n"
    ∷ codes "export float pow(float a, float b);\n"
    ∷ codes "export float sqrt(float a);\n"
    ∷ codes "export float sin(float a);\n"
    ∷ codes "export float cos(float a);\n"
    ∷ codes "export float floor(float a);\n"
    ∷ codes "export float dot(float3 a, float3 b);\n"
    ∷ codes "export float3 normalize(float3 a);\n"
    ∷ codes "export float luminance(color a);\n"
    ∷ codes "export float lerp(float a, float b, float l);\n"
    ∷ codes "export float3 lerp(float3 a, float3 b, float l);\n"
    ∷ codes "export color lerp(color a, color b, float l);\n"
    ∷ [])

abbrev pub tex_text : List ℕ
tex_text = concat (
    codes "mdl 1.6;\n"
    ∷ codes "export enum gamma_mode { gamma_default, gamma_linear, gamma_srgb };\n"
    ∷ codes "export enum wrap_mode { wrap_clamp, wrap_repeat, wrap_mirrored_repeat, "
    ∷ codes "wrap_clip };\n"
    ∷ codes "export color lookup_color(uniform texture_2d tex, float2 coord, uniform "
    ∷ codes "wrap_mode wrap_u = wrap_repeat, uniform wrap_mode wrap_v = wrap_repeat);\n"
    ∷ codes "export float lookup_float(uniform texture_2d tex, float2 coord, uniform "
    ∷ codes "wrap_mode wrap_u = wrap_repeat, uniform wrap_mode wrap_v = wrap_repeat);\n"
    ∷ codes "export float3 lookup_float3(uniform texture_2d tex, float2 coord, uniform "
    ∷ codes "wrap_mode wrap_u = wrap_repeat, uniform wrap_mode wrap_v = wrap_repeat);\n"
    ∷ [])

abbrev pub anno_text : List ℕ
anno_text = concat (
    codes "mdl 1.6;\n"
    ∷ codes "export annotation display_name(string name);\n"
    ∷ codes "export annotation description(string text);\n"
    ∷ codes "export annotation in_group(string group);\n"
    ∷ codes "export annotation in_group(string group, string subgroup);\n"
    ∷ codes "export annotation author(string name);\n"
    ∷ codes "export annotation key_words(string[<n>] words);\n"
    ∷ codes "export annotation hidden();\n"
    ∷ codes "export annotation unused();\n"
    ∷ codes "export annotation soft_range(float min, float max);\n"
    ∷ codes "export annotation soft_range(int min, int max);\n"
    ∷ codes "export annotation hard_range(float min, float max);\n"
    ∷ codes "export annotation hard_range(int min, int max);\n"
    ∷ [])

-- the embedded text of a name of one component
abbrev pub embedded_at : List ℕ → Option (List ℕ)
embedded_at name =
    if bytes_eq name (codes "df") then Some df_text
    else if bytes_eq name (codes "state") then Some state_text
    else if bytes_eq name (codes "math") then Some math_text
    else if bytes_eq name (codes "tex") then Some tex_text
    else if bytes_eq name (codes "anno") then Some anno_text
    else None

abbrev pub embedded_of : List (List ℕ) → Option (List ℕ)
embedded_of (name ∷ []) = embedded_at name
embedded_of _ = None

-- the embedded text of a module, where it has one
abbrev pub embedded : ModuleName → Option (List ℕ)
embedded name = embedded_of name.parts
