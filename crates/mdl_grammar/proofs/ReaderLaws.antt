-- Laws of the crates below, by the names that the reader's functions use.
pub use Rattle.expression_grammar.proofs.StackLaws.{stack_laws}
pub use Rattle.module_grammar.proofs.ModuleStepLaws.{longer_declarations, longer_parameters}
