-- The machine of modules reads the type and the name that a declaration begins with.
use Rattle.std.proofs.Common.{◌≡◌, ap, refl, ℕ, Bool, true, false, List, [], ◌∷◌, ◌++◌, None}
use Rattle.mdl_lexer.specs.declared.token.Token.{Token}
use Rattle.mdl_lexer.specs.declared.token.Kind.TheVariants as kind
use Rattle.mdl_syntax.specs.declared.types.TypeTree.{TypeTree}
use Rattle.expression_grammar.specs.inside.Machine.{sort_of, export_word, part_wanted, part_read, word_read}
use Rattle.expression_grammar.specs.inside.Machine.{in_type, first_part, absolute_path, word_name, ident_at}
use Rattle.module_grammar.specs.inside.ModuleStates.{on, within, Begun, of_declaration, fronting}
use Rattle.module_grammar.specs.inside.ModuleMachine.{named_state}
use Rattle.module_grammar.specs.inside.ModuleStates.{item_wanted, exported_read}
use Rattle.expression_grammar.specs.inside.Sound.{place}
use Rattle.expression_grammar.specs.inside.Wrote.{TypeWrote}
use Rattle.module_grammar.specs.inside.WroteModules.{ExportWrote, not_exported, export_tokens}
use Rattle.module_grammar.proofs.ModuleReadsParts.{Way, by_sort}
use Rattle.module_grammar.proofs.ModuleReadsTypes.{FrontStart}
use Rattle.module_grammar.proofs.ModuleReadsFronts.{plain_front_reads, head_of}
use Rattle.module_grammar.proofs.ModuleReadsKinds.{export_takes}

item_start : (limit : ℕ) (begun : Begun) (early : Bool) (begin : ℕ) →
    FrontStart limit begun (of_declaration begin false) (head_of begin None)
    (within begun (item_wanted early)) begin
item_start limit begun true begin = record {
  at_word = λ number text own same.
      ap (λ n. on (within begun (fronting (of_declaration n false)
      (part_read (in_type (head_of n None)) (first_part text own))))) same;
  at_colons = λ number own same.
      ap (λ n. on (within begun (fronting (of_declaration n false)
      (part_wanted (in_type (head_of n None)) (absolute_path own))))) same;
  at_type = λ number word own same.
      ap (λ n. on (within begun (fronting (of_declaration n false)
      (word_read (in_type (head_of n None)) (word_name word own))))) same;
}
item_start limit begun false begin = record {
  at_word = λ number text own same.
      ap (λ n. on (within begun (fronting (of_declaration n false)
      (part_read (in_type (head_of n None)) (first_part text own))))) same;
  at_colons = λ number own same.
      ap (λ n. on (within begun (fronting (of_declaration n false)
      (part_wanted (in_type (head_of n None)) (absolute_path own))))) same;
  at_type = λ number word own same.
      ap (λ n. on (within begun (fronting (of_declaration n false)
      (word_read (in_type (head_of n None)) (word_name word own))))) same;
}

exported_start : (limit : ℕ) (begun : Begun) (at begin : ℕ) →
    FrontStart limit begun (of_declaration at true) (head_of begin None)
    (within begun (exported_read at)) begin
exported_start limit begun at begin = record {
  at_word = λ number text own same.
      ap (λ n. on (within begun (fronting (of_declaration at true)
      (part_read (in_type (head_of n None)) (first_part text own))))) same;
  at_colons = λ number own same.
      ap (λ n. on (within begun (fronting (of_declaration at true)
      (part_wanted (in_type (head_of n None)) (absolute_path own))))) same;
  at_type = λ number word own same.
      ap (λ n. on (within begun (fronting (of_declaration at true)
      (word_read (in_type (head_of n None)) (word_name word own))))) same;
}

-- `export` if it is written, a type and a name
pub declared_front_reads : (strict : Bool) (limit : ℕ) (begun : Begun) (early exported : Bool)
    (at : ℕ) (ty : TypeTree) (exports types : List Token) (named : Token) (text : List ℕ) →
    ExportWrote ty.span.at exported at exports → TypeWrote strict ty types →
    named.kind ≡ kind.Word text →
    Way strict limit (within begun (item_wanted early)) (exports ++ (types ++ named ∷ []))
    (named_state begun (of_declaration at exported) (head_of ty.span.at None) ty
    (ident_at text (place named)))
declared_front_reads strict limit begun early exported at ty exports types named text not_exported
    wrote is =
    plain_front_reads strict limit begun (of_declaration ty.span.at false) (head_of ty.span.at None)
    (within begun (item_wanted early)) ty types named text tt
    (item_start limit begun early ty.span.at) wrote is
declared_front_reads strict limit begun early exported at ty exports types named text
    (export_tokens front e) wrote is =
    by_sort (within begun (exported_read front.at)) export_word (ap sort_of e.is) tt
    (λ number. export_takes number begun early (place front)) refl
    (plain_front_reads strict limit begun (of_declaration front.at true) (head_of ty.span.at None)
    (within begun (exported_read front.at)) ty types named text tt
    (exported_start limit begun front.at ty.span.at) wrote is)
