-- The number and the words of each refusal, and the record that it names.
use Rattle.std.specs.Prelude.{ℕ, List}
use lib.Chars.{codes}
use Rattle.std.specs.Prelude.{Option, Some, None}
use Rattle.plain_tables.specs.declared.refusal.Refusal.{Refusal}
use Rattle.plain_tables.specs.declared.refusal.Refusal.TheVariants.{LineTooLong, NotUtf8, BlockTooLong, BlockCutShort, NotACommand, NoSuchTable, TableExists, NoSuchColumn, ColumnNamedTwice, TableNamedTwice, WrongType, KeyCannotBeSet, TooMany, NoSuchIndex, IndexExists, TableIsReferenced, KeyExists, NoReferencedRow, TableFull, RowIsReferenced, WrongNumberOfValues, TextTooLong, BadHeader, BadRecord, DumpTooLong, NoMemory}

-- the number of a refusal
abbrev pub number_of : Refusal → ℕ
number_of LineTooLong = 10
number_of NotUtf8 = 11
number_of BlockTooLong = 12
number_of BlockCutShort = 13
number_of NotACommand = 20
number_of NoSuchTable = 30
number_of TableExists = 31
number_of NoSuchColumn = 32
number_of ColumnNamedTwice = 33
number_of TableNamedTwice = 34
number_of WrongType = 35
number_of KeyCannotBeSet = 36
number_of TooMany = 37
number_of NoSuchIndex = 38
number_of IndexExists = 39
number_of TableIsReferenced = 40
number_of (KeyExists record') = 41
number_of (NoReferencedRow record') = 42
number_of (TableFull record') = 43
number_of RowIsReferenced = 44
number_of WrongNumberOfValues = 45
number_of TextTooLong = 46
number_of BadHeader = 61
number_of (BadRecord record') = 62
number_of DumpTooLong = 64
number_of NoMemory = 90

-- its words
abbrev pub text_of : Refusal → List ℕ
text_of LineTooLong = codes "line too long"
text_of NotUtf8 = codes "not UTF-8"
text_of BlockTooLong = codes "block too long"
text_of BlockCutShort = codes "block cut short"
text_of NotACommand = codes "not a command"
text_of NoSuchTable = codes "no such table"
text_of TableExists = codes "table exists"
text_of NoSuchColumn = codes "no such column"
text_of ColumnNamedTwice = codes "column named twice"
text_of TableNamedTwice = codes "table named twice"
text_of WrongType = codes "wrong type"
text_of KeyCannotBeSet = codes "key cannot be set"
text_of TooMany = codes "too many"
text_of NoSuchIndex = codes "no such index"
text_of IndexExists = codes "index exists"
text_of TableIsReferenced = codes "table is referenced"
text_of (KeyExists record') = codes "key exists"
text_of (NoReferencedRow record') = codes "no referenced row"
text_of (TableFull record') = codes "table full"
text_of RowIsReferenced = codes "row is referenced"
text_of WrongNumberOfValues = codes "wrong number of values"
text_of TextTooLong = codes "text too long"
text_of BadHeader = codes "bad header"
text_of (BadRecord record') = codes "bad record"
text_of DumpTooLong = codes "dump too long"
text_of NoMemory = codes "no memory"

-- the number of the record at fault, counted from 1, if the refusal names one
abbrev pub record_of : Refusal → Option ℕ
record_of (KeyExists record') = record'
record_of (NoReferencedRow record') = record'
record_of (TableFull record') = record'
record_of (BadRecord record') = Some record'
record_of LineTooLong = None
record_of NotUtf8 = None
record_of BlockTooLong = None
record_of BlockCutShort = None
record_of NotACommand = None
record_of NoSuchTable = None
record_of TableExists = None
record_of NoSuchColumn = None
record_of ColumnNamedTwice = None
record_of TableNamedTwice = None
record_of WrongType = None
record_of KeyCannotBeSet = None
record_of TooMany = None
record_of NoSuchIndex = None
record_of IndexExists = None
record_of TableIsReferenced = None
record_of RowIsReferenced = None
record_of WrongNumberOfValues = None
record_of TextTooLong = None
record_of BadHeader = None
record_of DumpTooLong = None
record_of NoMemory = None
