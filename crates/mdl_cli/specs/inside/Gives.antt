-- A result of the code is what reading gives, unless memory ran out.
use Rattle.std.specs.Prelude.{◌≡◌, List, Option, Some, None, Result, Ok, Err, map, ◌++◌, codes}
use Rattle.std.specs.Option.{option_map}
use Rattle.std.specs.Borrow.{Bor}
use Rattle.std.specs.declared.vec.Vec.{Vec}
use Rattle.std.specs.declared.alloc.Global.{Global}
use Rattle.type_rules.specs.declared.symbol.Symbol.{Symbol}
use Rattle.type_rules.specs.Terms.{Term}
use Rattle.mdl_cli.specs.declared.tree.Tree.{Tree}
use Rattle.mdl_cli.specs.declared.terms.ReadError.{ReadError}
use Rattle.mdl_cli.specs.declared.terms.ReadError.TheVariants.{NotFirst, OutOfMemory}
use Rattle.type_rules.specs.declared.ty.Arg.{Arg}
use Rattle.mdl_lexer.specs.declared.token.Kind.{Kind}
use Rattle.mdl_lexer.specs.declared.token.Token.{Token}
use Rattle.mdl_cli.specs.Words.{kinds_of, mark_word}
use Rattle.mdl_cli.specs.inside.Reading.{Reader, behind, ◌>>=◌}
use Rattle.mdl_cli.specs.inside.Trees.{term_of}

-- nothing was read, or there was no memory to tell
abbrev pub Fails : {Y : Type 0} → ReadError → Option Y → Type 0
Fails NotFirst found = found ≡ None
Fails OutOfMemory found = Unit {0}

abbrev pub Gives : {X Y : Type 0} → (X → Y) → Result X ReadError → Option Y → Type 0
Gives view (Ok x) found = found ≡ Some (view x)
Gives view (Err error) found = Fails error found

-- a symbol and the words that are left
abbrev pub symbol_found : Symbol × Bor (List Token) → Symbol × List Kind
symbol_found found = (found.0, kinds_of found.1.now)

-- a term and the words that are left
abbrev pub term_found : Tree × Bor (List Token) → Term × List Kind
term_found found = (term_of found.0, kinds_of found.1.now)

-- terms and the words that are left
abbrev pub terms_found : Vec Tree Global × Bor (List Token) → List Term × List Kind
terms_found found = (map term_of found.0.items, kinds_of found.1.now)

-- these terms, and behind them those that were read
abbrev pub behind_terms : List Term → Option (List Term × List Kind) → Option (List Term × List Kind)
behind_terms first found =
    option_map (λ (others : List Term × List Kind). (first ++ others.0, others.1)) found

-- a kid behind a comma
abbrev pub next_in : Reader → Arg → List Kind → Option (Term × List Kind)
next_in read arg words = behind (mark_word (codes ",")) words >>= read arg.ty
