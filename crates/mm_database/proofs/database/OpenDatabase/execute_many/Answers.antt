use Rattle.std.proofs.Common.{refl}
use Rattle.plain_tables.specs.declared.refusal.Refusal.TheVariants.{NoMemory}
use Rattle.mm_database.proofs.database.OpenDatabase.execute_many.Goals as goal

pub returns-in-Err-NoMemory-clause-refused : goal.returns-in-Err-NoMemory-clause-refused
returns-in-Err-NoMemory-clause-refused c is = record { why = NoMemory; declined = λ other. absurd (other refl); answer = c.refuse.ensures }
