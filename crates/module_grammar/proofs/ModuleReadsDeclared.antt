-- The machine of modules reads structs and enums, once annotations and defaults are read.
use Rattle.std.proofs.Common.{arith, ℕ, ◌≤◌, Bool, List}
use Rattle.mdl_lexer.specs.declared.token.Token.{Token}
use Rattle.mdl_syntax.specs.Placed.{last_end}
use Rattle.mdl_syntax.specs.Modules.{Declaration, structure, enumeration}
use Rattle.mdl_syntax.specs.AcceptedModules.{declaration_height}
use Rattle.module_grammar.specs.inside.ModuleStates.{within, Begun, item_wanted}
use Rattle.module_grammar.specs.inside.ModuleStates.{with_declaration}
use Rattle.module_grammar.specs.inside.WroteModules.{DeclarationWrote, structure_tokens}
use Rattle.module_grammar.specs.inside.WroteModules.{enumeration_tokens}
use Rattle.module_grammar.proofs.ModuleReadsParts.{Way}
use Rattle.module_grammar.proofs.ModuleReadsNotes.{InnerLaw}
use Rattle.module_grammar.proofs.ModuleReadsKinds.{enum_reads, struct_reads}
use Rattle.module_grammar.proofs.ModuleReadsFields.{FieldValueLaw, fields_reads, ends_there}

abbrev pub HasParts : Declaration → Type 0
HasParts (structure exported name annotations fields span) = Unit {0}
HasParts (enumeration exported name annotations values span) = Unit {0}
HasParts _ = ⊥

pub parts_law : (strict : Bool) (limit : ℕ) → InnerLaw strict limit → FieldValueLaw strict limit →
    (begun : Begun) (early : Bool) (end : ℕ) (one : Declaration) (tokens : List Token) →
    HasParts one → DeclarationWrote strict one tokens → declaration_height one ≤ limit →
    Way strict limit (within begun (item_wanted early)) tokens
    (with_declaration begun one (last_end end tokens))
parts_law strict limit inner law begun early before one tokens has
    (structure_tokens exported at word named brace close mark text annotations end fields exports
    notes own e w n a b f c m) low =
    ends_there strict limit begun (within begun (item_wanted early)) before one tokens
    (structure_tokens exported at word named brace close mark text annotations end fields exports
    notes own e w n a b f c m)
    (struct_reads strict limit inner begun early exported at word named brace close mark text
    annotations end fields exports notes own e w n a b c m (omega (arith, low))
    (fields_reads strict limit inner law begun annotations fields own f (omega (arith, low))))
parts_law strict limit inner law begun early before one tokens has
    (enumeration_tokens exported at word named brace close mark text annotations end values exports
    notes own e w n a b some v c m) low =
    ends_there strict limit begun (within begun (item_wanted early)) before one tokens
    (enumeration_tokens exported at word named brace close mark text annotations end values exports
    notes own e w n a b some v c m)
    (enum_reads strict limit inner begun early exported at word named brace close mark text
    annotations end values exports notes own e w n a b some v c m (omega (arith, low))
    (omega (arith, low)))
parts_law strict limit inner law begun early before one tokens has _ low = absurd has
