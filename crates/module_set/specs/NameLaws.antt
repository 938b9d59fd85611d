-- Names that the test finds the same are one.
use Rattle.std.proofs.Common.{refl, ap}
use Rattle.std.specs.Cmp.Lexicographic.{pointwise_decides, bytes_decides}
use Rattle.case_table.specs.Lists.{Tells}
use Rattle.module_set.specs.Names.{same_name, named}

pub same_name-tells : Tells same_name
same_name-tells = record {
  itself = λ name. (pointwise_decides bytes_decides name.parts name.parts).1 refl;
  only = λ one other h. ap named ((pointwise_decides bytes_decides one.parts other.parts).0 h);
}
