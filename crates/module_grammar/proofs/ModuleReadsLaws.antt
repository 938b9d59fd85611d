-- The machine of modules reads every declaration, and so whole modules, once values are read.
use Rattle.std.proofs.Common.{◌≡◌, subst, refl, arith, ℕ, ◌≤◌, Bool, true, List, [], ◌∷◌}
use Rattle.std.proofs.Common.{codes, None}
use Rattle.mdl_lexer.specs.declared.token.Token.{Token}
use Rattle.mdl_syntax.specs.declared.types.Size.TheVariants as size
use Rattle.mdl_syntax.specs.Levels.{reserved_number}
use Rattle.mdl_syntax.specs.Placed.{last_end}
use Rattle.mdl_syntax.specs.Modules.{Declaration, ModuleTree, material, variant, function}
use Rattle.mdl_syntax.specs.Modules.{annotation}
use Rattle.mdl_syntax.specs.AcceptedModules.{declaration_height, module_height, is_version}
use Rattle.expression_grammar.specs.inside.Machine.{word_name, type_of, ident_at}
use Rattle.module_grammar.specs.inside.ModuleStates.{within, Begun, item_wanted, mdl_wanted}
use Rattle.module_grammar.specs.inside.ModuleStates.{with_declaration}
use Rattle.module_grammar.specs.inside.ModuleLeads.{ModuleEnds}
use Rattle.expression_grammar.specs.inside.Sound.{place}
use Rattle.expression_grammar.specs.inside.Wrote.{of_one, a_word}
use Rattle.module_grammar.specs.inside.WroteModules.{WroteModule, DeclarationWrote, material_tokens}
use Rattle.module_grammar.specs.inside.WroteModules.{variant_tokens, function_tokens, prototype_tokens}
use Rattle.module_grammar.specs.inside.WroteModules.{declared_annotation_tokens, no_front}
use Rattle.module_grammar.proofs.ModuleReadsParts.{Way}
use Rattle.module_grammar.proofs.ModuleReadsNotes.{InnerLaw}
use Rattle.module_grammar.proofs.ModuleReadsInner.{AnnotationLaw, inner_law}
use Rattle.module_grammar.proofs.ModuleReadsKinds.{named_of}
use Rattle.module_grammar.proofs.ModuleReadsFields.{FieldValueLaw, ends_there}
use Rattle.module_grammar.proofs.ModuleReadsDeclared.{parts_law}
use Rattle.module_grammar.proofs.ModuleReadsSites.{DefaultLaw, BodyLaw, BaseLaw}
use Rattle.module_grammar.proofs.ModuleReadsFunctions.{bodied_reads, prototype_reads, as_function}
use Rattle.module_grammar.proofs.ModuleReadsVariants.{variant_reads, annotation_reads}
use Rattle.module_grammar.proofs.ModuleReadsWhole.{DeclarationLaw, module_reads_from}

-- a declaration with a head, or an annotation
abbrev pub HasHead : Declaration → Type 0
HasHead (material exported name parameters annotations body span) = Unit {0}
HasHead (variant exported ty name annotations base values span) = Unit {0}
HasHead (function exported ty name parameters frequency annotations body span) = Unit {0}
HasHead (annotation exported name parameters annotations span) = Unit {0}
HasHead _ = ⊥

pub functions_law : (strict : Bool) (limit : ℕ) → InnerLaw strict limit → DefaultLaw strict limit →
    BodyLaw strict limit → BaseLaw strict limit → (begun : Begun) (early : Bool) (end : ℕ)
    (one : Declaration) (tokens : List Token) → HasHead one → DeclarationWrote strict one tokens →
    declaration_height one ≤ limit →
    Way strict limit (within begun (item_wanted early)) tokens
    (with_declaration begun one (last_end end tokens))
functions_law strict limit inner default law base begun early before one tokens has
    (material_tokens exported at word named eq mark text parameters annotations end body exports
    owns notes bodies e w n o a q b m) low =
    let number = reserved_number (codes "material") in
    let name = word_name number (place word) in
    ends_there strict limit begun (within begun (item_wanted early)) before one tokens
    (material_tokens exported at word named eq mark text parameters annotations end body exports
    owns notes bodies e w n o a q b m)
    (bodied_reads strict limit inner default law begun early exported at
    (type_of name size.One name.span.end) named eq mark text parameters None 0 annotations end body
    exports (word ∷ []) owns [] notes bodies e (of_one name (word ∷ []) (a_word word number w.is
    refl)) n o no_front a q b m (omega (arith, low)) (omega (arith, low)) (omega (arith, low)))
functions_law strict limit inner default law base begun early before one tokens has
    (variant_tokens exported at ty named start star close eq mark text annotations end name
    arguments own exports types notes bases e t n s r c a q b m) low =
    ends_there strict limit begun (within begun (item_wanted early)) before one tokens
    (variant_tokens exported at ty named start star close eq mark text annotations end name
    arguments own exports types notes bases e t n s r c a q b m)
    (variant_reads strict limit inner base begun early exported at ty named start star close eq mark
    text annotations end name arguments own exports types notes bases e t n s r c a q b m
    (omega (arith, low)) (omega (arith, low)))
functions_law strict limit inner default law base begun early before one tokens has
    (function_tokens exported at ty named eq mark text parameters frequency from annotations end
    body exports types owns fronts notes bodies other e t n o f a q b m) low =
    let own = named_of at exported (ident_at text (place named)) in
    ends_there strict limit begun (within begun (item_wanted early)) before one tokens
    (function_tokens exported at ty named eq mark text parameters frequency from annotations end
    body exports types owns fronts notes bodies other e t n o f a q b m)
    (subst (λ made. Way strict limit (within begun (item_wanted early)) tokens
    (with_declaration begun made mark.end))
    (as_function own ty parameters frequency annotations body mark.end other)
    (bodied_reads strict limit inner default law begun early exported at ty named eq mark text
    parameters frequency from annotations end body exports types owns fronts notes bodies e t n o f
    a q b m (omega (arith, low)) (omega (arith, low)) (omega (arith, low))))
functions_law strict limit inner default law base begun early before one tokens has
    (prototype_tokens exported at ty named mark text parameters frequency from annotations end
    exports types owns fronts notes e t n o f a m) low =
    ends_there strict limit begun (within begun (item_wanted early)) before one tokens
    (prototype_tokens exported at ty named mark text parameters frequency from annotations end
    exports types owns fronts notes e t n o f a m)
    (prototype_reads strict limit inner default begun early exported at ty named mark text
    parameters frequency from annotations end exports types owns fronts notes e t n o f a m
    (omega (arith, low)) (omega (arith, low)))
functions_law strict limit inner default law base begun early before one tokens has
    (declared_annotation_tokens exported at word named mark text parameters annotations end exports
    owns notes e w n o a m) low =
    ends_there strict limit begun (within begun (item_wanted early)) before one tokens
    (declared_annotation_tokens exported at word named mark text parameters annotations end exports
    owns notes e w n o a m)
    (annotation_reads strict limit inner default begun early exported at word named mark text
    parameters annotations end exports owns notes e w n o a m (omega (arith, low))
    (omega (arith, low)))
functions_law strict limit inner default law base begun early before one tokens has _ low =
    absurd has

-- any declaration
declarations_law : (strict : Bool) (limit : ℕ) → InnerLaw strict limit →
    FieldValueLaw strict limit → DefaultLaw strict limit → BodyLaw strict limit →
    BaseLaw strict limit → (begun : Begun) (early : Bool) (end : ℕ) (one : Declaration)
    (tokens : List Token) → DeclarationWrote strict one tokens → declaration_height one ≤ limit →
    Way strict limit (within begun (item_wanted early)) tokens
    (with_declaration begun one (last_end end tokens))
declarations_law strict limit inner field default body base begun early before
    (material exported name parameters annotations tree span) tokens wrote low =
    functions_law strict limit inner default body base begun early before
    (material exported name parameters annotations tree span) tokens tt wrote low
declarations_law strict limit inner field default body base begun early before
    (variant exported ty name annotations called arguments span) tokens wrote low =
    functions_law strict limit inner default body base begun early before
    (variant exported ty name annotations called arguments span) tokens tt wrote low
declarations_law strict limit inner field default body base begun early before
    (function exported ty name parameters frequency annotations tree span) tokens wrote low =
    functions_law strict limit inner default body base begun early before
    (function exported ty name parameters frequency annotations tree span) tokens tt wrote low
declarations_law strict limit inner field default body base begun early before
    (annotation exported name parameters annotations span) tokens wrote low =
    functions_law strict limit inner default body base begun early before
    (annotation exported name parameters annotations span) tokens tt wrote low
declarations_law strict limit inner field default body base begun early before one tokens wrote
    low =
    parts_law strict limit inner field begun early before one tokens tt wrote low

pub declaration_law : (strict : Bool) (limit : ℕ) → AnnotationLaw strict limit →
    FieldValueLaw strict limit → DefaultLaw strict limit → BodyLaw strict limit →
    BaseLaw strict limit → DeclarationLaw strict limit
declaration_law strict limit law field default body base at version imports notes done end early one
    tokens wrote low =
    let begun : Begun = record {
      at = at;
      end = end;
      version = version;
      imports = imports;
      annotations = notes;
      declarations = done;
    } in
    declarations_law strict limit (inner_law strict limit law) field default body base begun early
    end one tokens wrote low

pub module_reads : (strict : Bool) (limit : ℕ) → AnnotationLaw strict limit →
    FieldValueLaw strict limit → DefaultLaw strict limit → BodyLaw strict limit →
    BaseLaw strict limit → (tree : ModuleTree) (tokens : List Token) →
    WroteModule strict tree tokens →
    (strict ≡ true → is_version tree.version.text tree.version.double ≡ true) →
    module_height tree ≤ limit → ModuleEnds strict limit 0 mdl_wanted tokens tree
module_reads strict limit law field default body base tree tokens wrote is low =
    module_reads_from strict limit (inner_law strict limit law)
    (declaration_law strict limit law field default body base) tree tokens wrote is low
