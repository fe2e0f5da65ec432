use Rattle.std.proofs.Common.{◌-◌}
use Rattle.column_primitive.proofs.EqualLemmas as lemmas
use Rattle.column_primitive.proofs.laws.equal_where_rows_are.Goals as goal

pub returns-clause-rows : goal.returns-clause-rows
returns-clause-rows g c = lemmas.rows_decide g.T.PartialEq.eq g.met.T.Eq.laws g.met.T.NativeType.same

pub returns-clause-bytes : goal.returns-clause-bytes
returns-clause-bytes g c = lemmas.bytes_decide g.T.NativeType.le_bytes g.T.NativeType.of_le16 (16 - g.T.NativeType.SIZE) g.T.NativeType.is_value g.met.T.NativeType.back g.T.PartialEq.eq g.met.T.Eq.laws g.met.T.NativeType.same

pub returns-clause-reflexive : goal.returns-clause-reflexive
returns-clause-reflexive g c = lemmas.rows_reflexive g.T.PartialEq.eq g.met.T.Eq.laws

pub returns-clause-symmetric : goal.returns-clause-symmetric
returns-clause-symmetric g c = lemmas.rows_symmetric g.T.PartialEq.eq g.met.T.Eq.laws

pub returns-clause-transitive : goal.returns-clause-transitive
returns-clause-transitive g c = lemmas.rows_transitive g.T.PartialEq.eq g.met.T.Eq.laws
