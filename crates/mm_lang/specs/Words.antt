-- The words that commands begin with.
use Rattle.std.specs.Prelude.{ℕ, List}
use lib.Chars.{codes}
use Rattle.mm_lang.specs.declared.parser.CommandWord.{CommandWord}
use Rattle.mm_lang.specs.declared.parser.CommandWord.TheVariants as word

-- the letters of a word
abbrev pub letters : CommandWord → List ℕ
letters word.Delete = codes "delete"
letters word.Drop = codes "drop"
letters word.Dump = codes "dump"
letters word.Index = codes "index"
letters word.Insert = codes "insert"
letters word.Load = codes "load"
letters word.Select = codes "select"
letters word.Table = codes "table"
letters word.Tables = codes "tables"
letters word.Update = codes "update"
