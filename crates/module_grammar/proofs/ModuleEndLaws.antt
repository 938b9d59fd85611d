-- Names of modules, imports and declarations end where their tokens do.
use Rattle.std.proofs.Common.{◌≡◌, ◌∙◌, sym, ap, refl, ℕ, List, [], ◌∷◌, ◌++◌, Some, Bool}
use Rattle.mdl_lexer.specs.declared.token.Token.{Token}
use Rattle.mdl_syntax.specs.declared.names.Span.{Span}
use Rattle.mdl_syntax.specs.declared.names.Ident.{Ident}
use Rattle.mdl_syntax.specs.declared.imports.Lead.{Lead}
use Rattle.mdl_syntax.specs.declared.imports.Import.{Import}
use Rattle.mdl_syntax.specs.declared.imports.Import.TheVariants as import_form
use Rattle.mdl_syntax.specs.Modules.{Declaration, material, variant, function, structure}
use Rattle.mdl_syntax.specs.Modules.{enumeration, annotation}
use Rattle.expression_grammar.specs.inside.Machine.{from_to, ident_at}
use Rattle.module_grammar.specs.inside.ModuleStates.{module_name, part_end, split_last}
use Rattle.module_grammar.specs.inside.ModuleStates.{qualified_from}
use Rattle.expression_grammar.specs.inside.Sound.{place}
use Rattle.module_grammar.specs.inside.WroteModules.{NamingWrote, first_named, longer_name}
use Rattle.module_grammar.specs.inside.WroteModules.{ImportWrote, import_tokens, using_tokens}
use Rattle.module_grammar.specs.inside.WroteModules.{DeclarationWrote, material_tokens, variant_tokens}
use Rattle.module_grammar.specs.inside.WroteModules.{function_tokens, prototype_tokens}
use Rattle.module_grammar.specs.inside.WroteModules.{structure_tokens, enumeration_tokens}
use Rattle.module_grammar.specs.inside.WroteModules.{declared_annotation_tokens}
use Rattle.expression_grammar.proofs.KindLaws.{last_end_append}
use Rattle.module_grammar.proofs.ModuleWroteParts.{EndsAt, ends_behind}

-- Names.

last_part : (parts : List Ident) (part : Ident) (from : ℕ) → part_end (parts ++ part ∷ []) from ≡
    part.span.end
last_part [] part from = refl
last_part (first ∷ parts) part from = last_part parts part first.span.end

pub naming_end : (led : Lead) (at : ℕ) (parts : List Ident) (end : ℕ) (tokens : List Token) →
    NamingWrote led at parts end tokens → (from : ℕ) → part_end parts from ≡ end
naming_end led at parts end tokens (first_named own begin leads word text l w) from = refl
naming_end led at parts end tokens (longer_name own begin others close front colon word text n c w)
    from =
    last_part others (ident_at text (place word)) from

split_is : (first : Ident) (more : List Ident) (name : Ident) →
    split_last first (more ++ name ∷ []) ≡ (first ∷ more, name)
split_is first [] name = refl
split_is first (next ∷ more) name = λ i. (
  first ∷ (split_is next more name i).0,
  (split_is next more
      name i).1,
)

-- a name of a module with one of its names behind it comes apart
qualified_by : (led : Lead) (at : ℕ) (first : Ident) (parts : List Ident) (name : Ident) (close : ℕ)
    →
    qualified_from led at (first ∷ (parts ++ name ∷ [])) close ≡ Some (record {
      «module» = module_name led at (first ∷ parts) (part_end (first ∷ parts) at);
      name = Some name;
      span = from_to at close;
    })
qualified_by led at first [] name close = refl
qualified_by led at first (next ∷ parts) name close = λ i. Some (record {
  «module» = module_name led at (first ∷ (split_is next parts name i).0)
      (part_end (first ∷ (split_is next parts name i).0) at);
  name = Some (split_is next parts name i).1;
  span = from_to at close;
})

-- a name has a part
pub naming_parts : (led : Lead) (at : ℕ) (parts : List Ident) (end : ℕ) (tokens : List Token) →
    NamingWrote led at parts end tokens → (first : Ident) × (more : List Ident) × (parts ≡ first ∷
    more)
naming_parts led at parts end tokens (first_named own begin leads word text l w) =
    (ident_at text (place word), [], refl)
naming_parts led at parts end tokens (longer_name own begin others close front colon word text n c
    w) =
    by (naming_parts own begin others close front n)
  where
    by : (first : Ident) × (more : List Ident) × (others ≡ first ∷ more) →
        (first : Ident) × (more : List Ident) × (others ++ ident_at text (place word) ∷ [] ≡ first ∷
        more)
    by (first, more, is) = (
      first,
      more ++ ident_at text (place word) ∷ [],
      ap (λ list. list ++ ident_at text (place
          word) ∷ []) is,
    )

pub qualified_is : (led : Lead) (at : ℕ) (parts : List Ident) (end : ℕ) (tokens : List Token) (name
    : Ident) (close : ℕ) → NamingWrote led at parts end tokens →
    qualified_from led at (parts ++ name ∷ []) close ≡ Some (record {
      «module» = module_name led at parts end;
      name = Some name;
      span = from_to at close;
    })
qualified_is led at parts end tokens name close wrote =
    by (naming_parts led at parts end tokens wrote)
  where
    by : (first : Ident) × (more : List Ident) × (parts ≡ first ∷ more) →
        qualified_from led at (parts ++ name ∷ []) close ≡ Some (record {
          «module» = module_name led at parts end;
          name = Some name;
          span = from_to at close;
        })
    by (first, more, is) =
        ap (λ list. qualified_from led at (list ++ name ∷ []) close) is
        ∙ (qualified_by led at first more name close
        ∙ ((λ i. Some (record {
          «module» = module_name led at (sym is i) (part_end (sym is i) at);
          name = Some name;
          span = from_to at close;
        })) ∙ (λ i. Some (record {
          «module» = module_name led at parts (naming_end led at parts end tokens wrote at i);
          name = Some name;
          span = from_to at close;
        }))))

-- Imports and declarations.

abbrev pub import_span : Import → Span
import_span (import_form.Import items span) = span
import_span (import_form.Using name names span) = span

pub import_ends : (one : Import) (tokens : List Token) → ImportWrote one tokens → EndsAt tokens
    (import_span one).end
import_ends one tokens (import_tokens word semicolon items own w some i s) end =
    last_end_append word.end own (semicolon ∷ [])
import_ends one tokens (using_tokens word import_token semicolon led at parts close names own used w
    n m u s) end =
    last_end_append word.end own (import_token ∷ (used ++ semicolon ∷ []))
    ∙ last_end_append import_token.end used (semicolon ∷ [])

abbrev pub declaration_span : Declaration → Span
declaration_span (material exported name parameters annotations body span) = span
declaration_span (variant exported ty name annotations base values span) = span
declaration_span (function exported ty name parameters frequency annotations body span) = span
declaration_span (structure exported name annotations fields span) = span
declaration_span (enumeration exported name annotations values span) = span
declaration_span (annotation exported name parameters annotations span) = span

pub declaration_ends : (strict : Bool) (one : Declaration) (tokens : List Token) → DeclarationWrote
    strict one tokens → EndsAt tokens (declaration_span one).end
declaration_ends strict one tokens (material_tokens exported at word named equals semicolon text
    parameters notes_of behind body exports owns notes bodies e w n o a q b s) =
    ends_behind exports (word ∷ named ∷ (owns ++ (notes ++ equals ∷ (bodies ++ semicolon ∷ []))))
    semicolon.end (λ end. ends_behind owns (notes ++ equals ∷ (bodies ++ semicolon ∷ []))
    semicolon.end (ends_behind notes (equals ∷ (bodies ++ semicolon ∷ [])) semicolon.end (λ end.
    last_end_append equals.end bodies (semicolon ∷ []))) named.end)
declaration_ends strict one tokens (variant_tokens exported at ty named start star close equals
    semicolon text notes_of behind base held own exports types notes bases e t n o r c a q b s) =
    ends_behind exports (types ++ named ∷ start ∷ star ∷ close ∷ (notes ++ equals ∷ (bases ++
    semicolon ∷ []))) semicolon.end (ends_behind types (named ∷ start ∷ star ∷ close ∷ (notes ++
    equals ∷ (bases ++ semicolon ∷ []))) semicolon.end (λ end. ends_behind notes (equals ∷ (bases ++
    semicolon ∷ [])) semicolon.end (λ end. last_end_append equals.end bases (semicolon ∷ []))
    close.end))
declaration_ends strict one tokens (function_tokens exported at ty named equals semicolon text
    parameters frequency from notes_of behind body exports types owns fronts notes bodies m e t n o
    f a q b s) =
    ends_behind exports (types ++ named ∷ (owns ++ (fronts ++ (notes ++ equals ∷ (bodies ++
    semicolon ∷ []))))) semicolon.end (ends_behind types (named ∷ (owns ++ (fronts ++ (notes ++
    equals ∷ (bodies ++ semicolon ∷ []))))) semicolon.end (λ end. ends_behind owns (fronts ++ (notes
    ++ equals ∷ (bodies ++ semicolon ∷ []))) semicolon.end (ends_behind fronts (notes ++ equals ∷
    (bodies ++ semicolon ∷ [])) semicolon.end (ends_behind notes (equals ∷ (bodies ++ semicolon ∷
    [])) semicolon.end (λ end. last_end_append equals.end bodies (semicolon ∷ [])))) named.end))
declaration_ends strict one tokens (prototype_tokens exported at ty named semicolon text parameters
    frequency from notes_of behind exports types owns fronts notes e t n o f a s) =
    ends_behind exports (types ++ named ∷ (owns ++ (fronts ++ (notes ++ semicolon ∷ []))))
    semicolon.end (ends_behind types (named ∷ (owns ++ (fronts ++ (notes ++ semicolon ∷ []))))
    semicolon.end (λ end. ends_behind owns (fronts ++ (notes ++ semicolon ∷ [])) semicolon.end
    (ends_behind fronts (notes ++ semicolon ∷ []) semicolon.end (ends_behind notes (semicolon ∷ [])
    semicolon.end (λ end. refl))) named.end))
declaration_ends strict one tokens (structure_tokens exported at word named brace close semicolon
    text notes_of behind fields exports notes inside e w n a b f c s) =
    ends_behind exports (word ∷ named ∷ (notes ++ brace ∷ (inside ++ close ∷ semicolon ∷ [])))
    semicolon.end (λ end. ends_behind notes (brace ∷ (inside ++ close ∷ semicolon ∷ []))
    semicolon.end (λ end. last_end_append brace.end inside (close ∷ semicolon ∷ [])) named.end)
declaration_ends strict one tokens (enumeration_tokens exported at word named brace close semicolon
    text notes_of behind values exports notes inside e w n a b some v c s) =
    ends_behind exports (word ∷ named ∷ (notes ++ brace ∷ (inside ++ close ∷ semicolon ∷ [])))
    semicolon.end (λ end. ends_behind notes (brace ∷ (inside ++ close ∷ semicolon ∷ []))
    semicolon.end (λ end. last_end_append brace.end inside (close ∷ semicolon ∷ [])) named.end)
declaration_ends strict one tokens (declared_annotation_tokens exported at word named semicolon text
    parameters notes_of behind exports owns notes e w n o a s) =
    ends_behind exports (word ∷ named ∷ (owns ++ (notes ++ semicolon ∷ []))) semicolon.end (λ end.
    ends_behind owns (notes ++ semicolon ∷ []) semicolon.end (ends_behind notes (semicolon ∷ [])
    semicolon.end (λ end. refl)) named.end)
