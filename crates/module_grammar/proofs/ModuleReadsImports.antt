-- The machine of modules reads imports.
use Rattle.std.proofs.Common.{◌≡◌, ◌∙◌, sym, ap, subst, refl, ℕ, Bool, List, [], ◌∷◌, ◌++◌}
use Rattle.std.proofs.Common.{Option, Some, codes, true}
use Rattle.std.proofs.lemmas.List.{append_assoc, append-nil}
use Rattle.mdl_lexer.specs.declared.token.Token.{Token}
use Rattle.mdl_syntax.specs.declared.names.Span.{Span}
use Rattle.mdl_syntax.specs.declared.names.Ident.{Ident}
use Rattle.mdl_syntax.specs.declared.imports.Lead.{Lead}
use Rattle.mdl_syntax.specs.declared.imports.Lead.TheVariants as lead
use Rattle.mdl_syntax.specs.declared.imports.ModuleRef.{ModuleRef}
use Rattle.mdl_syntax.specs.declared.imports.Qualified.{Qualified}
use Rattle.mdl_syntax.specs.declared.imports.Import.{Import}
use Rattle.mdl_syntax.specs.declared.imports.Import.TheVariants as import_form
use Rattle.mdl_syntax.specs.Levels.{mark_number}
use Rattle.expression_grammar.specs.inside.Machine.{Sort, sort_of, identifier, double_colon, ident_at}
use Rattle.expression_grammar.specs.inside.Machine.{comma, semicolon, binary_operator, import_word}
use Rattle.expression_grammar.specs.inside.Machine.{using_word, from_to}
use Rattle.module_grammar.specs.inside.ModuleStates.{Naming, unnamed}
use Rattle.module_grammar.specs.inside.ModuleStates.{parted, open_ended, Begun}
use Rattle.module_grammar.specs.inside.ModuleMachine.{state_step}
use Rattle.module_grammar.specs.inside.ModuleStates.{State, on, within}
use Rattle.module_grammar.specs.inside.ModuleStates.{importing, imported, using, used_wanted}
use Rattle.module_grammar.specs.inside.ModuleStates.{used_read, used_next, used_all, item_wanted}
use Rattle.module_grammar.specs.inside.ModuleMachine.{import_step, using_step}
use Rattle.module_grammar.specs.inside.ModuleStates.{with_import}
use Rattle.module_grammar.specs.inside.ModuleMachine.{import_item, all_of}
use Rattle.module_grammar.specs.inside.ModuleStates.{qualified_from, module_name}
use Rattle.expression_grammar.specs.inside.Sound.{IsMark, place}
use Rattle.module_grammar.specs.inside.WroteModules.{longer_name, QualifiedWrote}
use Rattle.module_grammar.specs.inside.WroteModules.{all_names, one_name, IdentWrote, an_ident}
use Rattle.module_grammar.specs.inside.WroteModules.{UsedWrote, all_used, some_used, ImportWrote}
use Rattle.module_grammar.specs.inside.WroteModules.{import_tokens, using_tokens, MoreWrote, no_more}
use Rattle.module_grammar.specs.inside.WroteModules.{one_more, not_any, several}
use Rattle.module_grammar.proofs.ModuleReadsParts.{Way, way_on, stay, by_sort}
use Rattle.module_grammar.proofs.ModuleReadsNames.{Goes, dot_first, colons_first, word_first}
use Rattle.module_grammar.proofs.ModuleReadsNames.{dot_again, here_colons, up_colons, up_dot, up_word}
use Rattle.module_grammar.proofs.ModuleReadsNames.{behind_dot, led_word, parted_colons, open_word}
use Rattle.module_grammar.proofs.ModuleReadsNames.{Namer, naming_reads}
use Rattle.module_grammar.proofs.ModuleEndLaws.{qualified_is, import_span}

-- Names go on in imports and in `using`.

import_goes : (begun : Begun) (at : ℕ) (items : List Qualified) (naming then : Naming) (sort : Sort)
    (own : Span) → Goes naming sort own then → import_step begun at items naming sort own
    ≡ on (within begun (importing at items then))
import_goes begun at [] naming then sort own (dot_first _) = refl
import_goes begun at [] naming then sort own (colons_first _) = refl
import_goes begun at [] naming then sort own (word_first _ _) = refl
import_goes begun at [] naming then sort own (dot_again _ _) = refl
import_goes begun at [] naming then sort own (here_colons _ _) = refl
import_goes begun at [] naming then sort own (up_colons _ _ _) = refl
import_goes begun at [] naming then sort own (up_dot _ _ _) = refl
import_goes begun at [] naming then sort own (up_word _ _ _ _) = refl
import_goes begun at [] naming then sort own (behind_dot _ _ _) = refl
import_goes begun at [] naming then sort own (led_word _ _ _ _) = refl
import_goes begun at [] naming then sort own (parted_colons _ _ _ _ _) = refl
import_goes begun at [] naming then sort own (open_word _ _ _ _ _ _) = refl
import_goes begun at (_ ∷ _) naming then sort own (dot_first _) = refl
import_goes begun at (_ ∷ _) naming then sort own (colons_first _) = refl
import_goes begun at (_ ∷ _) naming then sort own (word_first _ _) = refl
import_goes begun at (_ ∷ _) naming then sort own (dot_again _ _) = refl
import_goes begun at (_ ∷ _) naming then sort own (here_colons _ _) = refl
import_goes begun at (_ ∷ _) naming then sort own (up_colons _ _ _) = refl
import_goes begun at (_ ∷ _) naming then sort own (up_dot _ _ _) = refl
import_goes begun at (_ ∷ _) naming then sort own (up_word _ _ _ _) = refl
import_goes begun at (_ ∷ _) naming then sort own (behind_dot _ _ _) = refl
import_goes begun at (_ ∷ _) naming then sort own (led_word _ _ _ _) = refl
import_goes begun at (_ ∷ _) naming then sort own (parted_colons _ _ _ _ _) = refl
import_goes begun at (_ ∷ _) naming then sort own (open_word _ _ _ _ _ _) = refl

using_goes : (begun : Begun) (at : ℕ) (naming then : Naming) (sort : Sort) (own : Span) →
    Goes naming sort own then → using_step begun at naming sort own
    ≡ on (within begun (using at then))
using_goes begun at naming then sort own (dot_first _) = refl
using_goes begun at naming then sort own (colons_first _) = refl
using_goes begun at naming then sort own (word_first _ _) = refl
using_goes begun at naming then sort own (dot_again _ _) = refl
using_goes begun at naming then sort own (here_colons _ _) = refl
using_goes begun at naming then sort own (up_colons _ _ _) = refl
using_goes begun at naming then sort own (up_dot _ _ _) = refl
using_goes begun at naming then sort own (up_word _ _ _ _) = refl
using_goes begun at naming then sort own (behind_dot _ _ _) = refl
using_goes begun at naming then sort own (led_word _ _ _ _) = refl
using_goes begun at naming then sort own (parted_colons lead.Bare _ [] _ _) = refl
using_goes begun at naming then sort own (parted_colons lead.Bare _ (_ ∷ []) _ _) = refl
using_goes begun at naming then sort own (parted_colons lead.Bare _ (_ ∷ _ ∷ _) _ _) = refl
using_goes begun at naming then sort own (parted_colons lead.Absolute _ _ _ _) = refl
using_goes begun at naming then sort own (parted_colons lead.Here _ _ _ _) = refl
using_goes begun at naming then sort own (parted_colons (lead.Up _) _ _ _ _) = refl
using_goes begun at naming then sort own (open_word _ _ _ _ _ _) = refl

pub import_namer : (limit : ℕ) (begun : Begun) (at : ℕ) (items : List Qualified) →
    Namer limit (λ naming. within begun (importing at items naming))
import_namer limit begun at items = record {
  goes = λ number naming then sort own is. import_goes begun at items naming then sort own is;
  kept = λ naming. refl;
}

pub using_namer : (limit : ℕ) (begun : Begun) (at : ℕ) →
    Namer limit (λ naming. within begun (using at naming))
using_namer limit begun at = record {
  goes = λ number naming then sort own is. using_goes begun at naming then sort own is;
  kept = λ naming. refl;
}

-- Imports.

-- the state acts as if these had been read
pub record ItemEdge (limit : ℕ) (begun : Begun) (at : ℕ) (items : List Qualified) (state : State)
    : Type 0 where
  pub at_comma : (number : ℕ) (own : Span) → state_step limit number state comma own
      ≡ on (within begun (importing at items unnamed))
  pub at_semicolon : (number : ℕ) (own : Span) → state_step limit number state semicolon own
      ≡ on (with_import begun (import_form.Import items (from_to at own.end)) own.end)

pub record ItemReads (strict : Bool) (limit : ℕ) (begun : Begun) (at : ℕ) (items after : List Qualified)
    (tokens : List Token) : Type 0 where
  pub last : State
  pub leads : Way strict limit (within begun (importing at items unnamed)) tokens last
  pub edge : ItemEdge limit begun at after last

pub star_takes : (begun : Begun) (at : ℕ) (items : List Qualified) (own : Lead) (from : ℕ)
    (parts : List Ident) (end : ℕ) (here : Span) → import_step begun at items
    (open_ended own from parts end) (binary_operator (mark_number (codes "*")) 11) here
    ≡ on (within begun (imported at (items ++ all_of own from parts end here.end ∷ [])))
star_takes begun at [] own from parts end here = refl
star_takes begun at (_ ∷ _) own from parts end here = refl

comma_takes : (begun : Begun) (at : ℕ) (items : List Qualified) (own : Lead) (from : ℕ)
    (parts : List Ident) (end : ℕ) (here : Span) → import_step begun at items
    (parted own from parts end) comma here
    ≡ import_item begun at items (qualified_from own from parts end) comma here
comma_takes begun at [] own from parts end here = refl
comma_takes begun at (_ ∷ _) own from parts end here = refl

semicolon_takes : (begun : Begun) (at : ℕ) (items : List Qualified) (own : Lead) (from : ℕ)
    (parts : List Ident) (end : ℕ) (here : Span) → import_step begun at items
    (parted own from parts end) semicolon here
    ≡ import_item begun at items (qualified_from own from parts end) semicolon here
semicolon_takes begun at [] own from parts end here = refl
semicolon_takes begun at (_ ∷ _) own from parts end here = refl

item_reads : (strict : Bool) (limit : ℕ) (begun : Begun) (at : ℕ) (items : List Qualified)
    (one : Qualified) (tokens : List Token) → QualifiedWrote one tokens →
    ItemReads strict limit begun at items (items ++ one ∷ []) tokens
item_reads strict limit begun at items one tokens
    (all_names own from parts end front colon star wrote c s) =
    let now = λ (naming : Naming). within begun (importing at items naming) in
    let last = within begun (imported at (items ++ all_of own from parts end star.end ∷ [])) in
    record {
      last = last;
      leads = way_on (now (parted own from parts end))
          (naming_reads strict limit now (import_namer limit begun at items) own from parts end
          front wrote)
          (by_sort (now (open_ended own from parts end)) double_colon (ap sort_of c.is) tt
          (λ number. import_goes begun at items (parted own from parts end)
          (open_ended own from parts end) double_colon (place colon)
          (parted_colons own from parts end (place colon))) refl
          (by_sort last (binary_operator (mark_number (codes "*")) 11) (ap sort_of s.is) tt
          (λ number. star_takes begun at items own from parts end (place star)) refl stay));
      edge = record { at_comma = λ number here. refl; at_semicolon = λ number here. refl };
    }
item_reads strict limit begun at items one tokens
    (one_name own from parts end front colon word text wrote c is) =
    let now = λ (naming : Naming). within begun (importing at items naming) in
    let name = ident_at text (place word) in
    let found = qualified_is own from parts end front name word.end wrote in
    record {
      last = now (parted own from (parts ++ name ∷ []) word.end);
      leads = naming_reads strict limit now (import_namer limit begun at items) own from
          (parts ++ name ∷ []) word.end tokens
          (longer_name own from parts end front colon word text wrote c is);
      edge = record {
        at_comma = λ number here.
            comma_takes begun at items own from (parts ++ name ∷ []) word.end here
            ∙ ap (λ item. import_item begun at items item comma here) found;
        at_semicolon = λ number here.
            semicolon_takes begun at items own from (parts ++ name ∷ []) word.end here
            ∙ ap (λ item. import_item begun at items item semicolon here) found;
      };
    }

-- what is behind the items that are read
pub record MoreReads (strict : Bool) (limit : ℕ) (begun : Begun) (at : ℕ) (after : List Qualified)
    (state : State) (tokens : List Token) : Type 0 where
  pub last : State
  pub leads : Way strict limit state tokens last
  pub edge : ItemEdge limit begun at after last

-- one more behind `,`
item_on : (strict : Bool) (limit : ℕ) (begun : Begun) (at : ℕ) (items : List Qualified)
    (first : Qualified) (others : List Qualified) (state : State) (mark : Token)
    (own behind : List Token) → IsMark mark (codes ",") → ItemEdge limit begun at items state →
    (read : ItemReads strict limit begun at items (items ++ first ∷ []) own) →
    MoreReads strict limit begun at ((items ++ first ∷ []) ++ others) read.last behind →
    MoreReads strict limit begun at (items ++ first ∷ others) state (mark ∷ (own ++ behind))
item_on strict limit begun at items first others state mark own behind m edge read rest =
    subst (λ list. MoreReads strict limit begun at list state (mark ∷ (own ++ behind)))
    (append_assoc items (first ∷ []) others) (record {
      last = rest.last;
      leads = by_sort (within begun (importing at items unnamed)) comma (ap sort_of m.is) tt
          (λ number. edge.at_comma number (place mark)) refl
          (way_on read.last read.leads rest.leads);
      edge = rest.edge;
    })

pub more_items : (strict : Bool) (limit : ℕ) (begun : Begun) (at : ℕ) (items more : List Qualified)
    (state : State) (tokens : List Token) → ItemEdge limit begun at items state →
    MoreWrote QualifiedWrote more tokens →
    MoreReads strict limit begun at (items ++ more) state tokens
more_items strict limit begun at items more state tokens edge no_more =
    subst (λ list. MoreReads strict limit begun at list state []) (sym (append-nil items)) (record {
      last = state;
      leads = stay;
      edge = edge;
    })
more_items strict limit begun at items more state tokens edge
    (one_more mark first others own behind m one_wrote more_wrote) =
    let read = item_reads strict limit begun at items first own one_wrote in
    item_on strict limit begun at items first others state mark own behind m edge read
    (more_items strict limit begun at (items ++ first ∷ []) others read.last behind read.edge
    more_wrote)

-- `using`

pub record UsedReads (strict : Bool) (limit : ℕ) (begun : Begun) (at : ℕ) (name : ModuleRef)
    (names : Option (List Ident)) (state : State) (tokens : List Token) : Type 0 where
  pub last : State
  pub leads : Way strict limit state tokens last
  pub at_semicolon : (number : ℕ) (own : Span) → state_step limit number last semicolon own
      ≡ on (with_import begun (import_form.Using name names (from_to at own.end)) own.end)

more_used : (strict : Bool) (limit : ℕ) (begun : Begun) (at : ℕ) (name : ModuleRef)
    (names more : List Ident) (tokens : List Token) → MoreWrote IdentWrote more tokens →
    UsedReads strict limit begun at name (Some (names ++ more))
    (within begun (used_read at name names)) tokens
more_used strict limit begun at name names more tokens no_more =
    subst (λ list. UsedReads strict limit begun at name (Some list)
    (within begun (used_read at name names)) []) (sym (append-nil names)) (record {
      last = within begun (used_read at name names);
      leads = stay;
      at_semicolon = λ number own. refl;
    })
more_used strict limit begun at name names more tokens
    (one_more mark first others own behind m (an_ident word text is) more_wrote) =
    let read = more_used strict limit begun at name (names ++ first ∷ []) others behind more_wrote in
    subst (λ list. UsedReads strict limit begun at name (Some list)
    (within begun (used_read at name names)) (mark ∷ word ∷ behind))
    (append_assoc names (first ∷ []) others) (record {
      last = read.last;
      leads = by_sort (within begun (used_next at name names)) comma (ap sort_of m.is) tt
          (λ number. refl) refl
          (by_sort (within begun (used_read at name (names ++ first ∷ []))) (identifier text)
          (ap sort_of is) tt (λ number. refl) refl read.leads);
      at_semicolon = read.at_semicolon;
    })

used_reads : (strict : Bool) (limit : ℕ) (begun : Begun) (at : ℕ) (name : ModuleRef)
    (names : Option (List Ident)) (tokens : List Token) → UsedWrote names tokens →
    UsedReads strict limit begun at name names (within begun (used_wanted at name)) tokens
used_reads strict limit begun at name names tokens (all_used star s) = record {
  last = within begun (used_all at name);
  leads = by_sort (within begun (used_all at name)) (binary_operator (mark_number (codes "*")) 11)
      (ap sort_of s.is) tt (λ number. refl) refl stay;
  at_semicolon = λ number own. refl;
}
used_reads strict limit begun at name names tokens (some_used _ _ some not_any) =
    absurd (some refl)
used_reads strict limit begun at name names tokens
    (some_used _ _ some (several first more _ others (an_ident word text is) more_wrote)) =
    let read = more_used strict limit begun at name (first ∷ []) more others more_wrote in record {
      last = read.last;
      leads = by_sort (within begun (used_read at name (first ∷ []))) (identifier text)
          (ap sort_of is) tt (λ number. refl) refl read.leads;
      at_semicolon = read.at_semicolon;
    }

import_name_takes : (begun : Begun) (at : ℕ) (own : Lead) (from : ℕ) (parts : List Ident) (end : ℕ)
    (here : Span) → using_step begun at (parted own from parts end) import_word here
    ≡ on (within begun (used_wanted at (module_name own from parts end)))
import_name_takes begun at lead.Bare from [] end here = refl
import_name_takes begun at lead.Bare from (_ ∷ []) end here = refl
import_name_takes begun at lead.Bare from (_ ∷ _ ∷ _) end here = refl
import_name_takes begun at lead.Absolute from parts end here = refl
import_name_takes begun at lead.Here from parts end here = refl
import_name_takes begun at (lead.Up _) from parts end here = refl

pub import_reads : (strict : Bool) (limit : ℕ) (begun : Begun) (one : Import)
    (tokens : List Token) → ImportWrote one tokens →
    Way strict limit (within begun (item_wanted true)) tokens
    (with_import begun one (import_span one).end)
import_reads strict limit begun one tokens (import_tokens word mark items own w some not_any m) =
    absurd (some refl)
import_reads strict limit begun one tokens
    (import_tokens word mark items own w some (several first more firsts others first_wrote
    more_wrote) m) =
    let read = item_reads strict limit begun word.at [] first firsts first_wrote in
    let rest = more_items strict limit begun word.at (first ∷ []) more read.last others read.edge
    more_wrote in
    by_sort (within begun (importing word.at [] unnamed)) import_word (ap sort_of w.is) tt
    (λ number. refl) refl
    (way_on rest.last (way_on read.last read.leads rest.leads)
    (by_sort (with_import begun one (import_span one).end) semicolon (ap sort_of m.is) tt
    (λ number. rest.edge.at_semicolon number (place mark)) refl stay))
import_reads strict limit begun one tokens
    (using_tokens word import_token mark own from parts end names front used w wrote i used_wrote
    m) =
    let now = λ (naming : Naming). within begun (using word.at naming) in
    let name = module_name own from parts end in
    let read = used_reads strict limit begun word.at name names used used_wrote in
    by_sort (now unnamed) using_word (ap sort_of w.is) tt (λ number. refl) refl
    (way_on (now (parted own from parts end))
    (naming_reads strict limit now (using_namer limit begun word.at) own from parts end front wrote)
    (by_sort (within begun (used_wanted word.at name)) import_word (ap sort_of i.is) tt
    (λ number. import_name_takes begun word.at own from parts end (place import_token)) refl
    (way_on read.last read.leads
    (by_sort (with_import begun one (import_span one).end) semicolon (ap sort_of m.is) tt
    (λ number. read.at_semicolon number (place mark)) refl stay))))
