-- What a store keeps.
use Rattle.std.specs.Prelude.{List}
use Rattle.type_rules.specs.declared.symbol.Symbol.{Symbol}
use Rattle.dag_store.specs.declared.store.Node.{Node}

-- the symbols and nodes in the order in which they came, named by their places
pub record Kept : Type 0 where
  pub symbols : List Symbol
  pub nodes : List Node
