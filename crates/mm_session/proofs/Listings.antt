-- The lines of a listing, table after table and index after index.
use Rattle.std.proofs.Common.{◌≡◌, ℕ, ◌+◌, ◌<◌, List, [], ◌∷◌, ◌++◌, Some, refl, sym, ap, ◌∙◌, length, map, take, get_or, append_assoc}
use Rattle.std.proofs.lemmas.List.{append-nil, take_more}
use Rattle.std.proofs.lemmas.Grind.{flat_map-append}
use Rattle.std.proofs.lemmas.List.Elements.{filter_map-append}
use Rattle.std.proofs.lemmas.Option.{get_or_from_slice_get, slice_get_within, slice_get_read}
use Rattle.std.specs.List.{All, flat_map, filter_map, slice_get, cons_option}
use Rattle.std.specs.Option.{option_map}
use Rattle.plain_tables.specs.AnswerText.{text_line, declarations, declaration_lines}
use Rattle.plain_tables.specs.Spelling.{canonical_spelling}
use Rattle.plain_tables.specs.Tables.{Table}
use Rattle.plain_tables.specs.declared.command.Command.{Command}
use Rattle.plain_tables.specs.declared.command.Command.TheVariants as command
use Rattle.plain_tables.specs.declared.schema.Column.{Column}
use Rattle.plain_tables.specs.declared.schema.Schema.{Schema}
use Rattle.mm_relation.specs.declared.numbers.DeclaredIndex.{DeclaredIndex}
use Rattle.mm_relation.specs.State.{RelationState}
use Rattle.mm_catalog.specs.Seen.{table_of, plain_index}
use Rattle.mm_session.specs.Listing.{index_commands, command_lines}

abbrev line_of : Command → List ℕ
line_of c = text_line (canonical_spelling c)

-- ---- one table more

pub tables_more : (tables : List Table) (n : ℕ) (t : Table) → slice_get tables n ≡ Some t
    → declaration_lines (take (n + 1) tables) ≡ declaration_lines (take n tables) ++ declaration_lines (t ∷ [])
tables_more tables n t there =
    ap declaration_lines (take_more tables n t (slice_get_within tables n t there) ∙ ap (λ u. take n tables ++ u ∷ []) (get_or_from_slice_get tables n t t there))
    ∙ ap (flat_map line_of) (flat_map-append declarations (take n tables) (t ∷ []))
    ∙ flat_map-append line_of (flat_map declarations (take n tables)) (flat_map declarations (t ∷ []))

-- ---- one index more

module _ (name : List ℕ) (columns : List Column) where
  pub indexes_more : (declared : List DeclaredIndex) (i : ℕ) (d : DeclaredIndex) (c : Column) → i < length declared → (get_or declared i d).column.0 < length columns
      → c ≡ get_or columns (get_or declared i d).column.0 c
      → command_lines (index_commands name columns (take (i + 1) declared))
      ≡ command_lines (index_commands name columns (take i declared)) ++ line_of (command.Index name c.name (get_or declared i d).kind)
  indexes_more declared i d c l within read =
      let index = get_or declared i d in
      let one : option_map (λ (c : Column). command.Index name c.name index.kind) (slice_get columns index.column.0) ≡ Some (command.Index name c.name index.kind) =
      ap (option_map (λ (c : Column). command.Index name c.name index.kind)) (slice_get_read columns (length columns) index.column.0 c refl within read) in
      ap (λ ds. command_lines (index_commands name columns ds)) (take_more declared i d l)
      ∙ ap command_lines (filter_map-append (λ (d : DeclaredIndex). option_map (λ (c : Column). command.Index name c.name d.kind) (slice_get columns d.column.0)) (take i declared) (index ∷ []))
      ∙ flat_map-append line_of (index_commands name columns (take i declared)) (index_commands name columns (index ∷ []))
      ∙ ap (λ o. command_lines (index_commands name columns (take i declared)) ++ flat_map line_of (cons_option o [])) one
      ∙ ap (λ text. command_lines (index_commands name columns (take i declared)) ++ text) (append-nil (line_of (command.Index name c.name index.kind)))

  -- an index is spelled behind the lines so far, and a line feed behind that
  pub index_step : (declared : List DeclaredIndex) (i : ℕ) (d : DeclaredIndex) (c : Column) (column old start printed pushed : List ℕ) → i < length declared
      → All (λ e. e.column.0 < length columns) declared → c ≡ get_or columns (get_or declared i d).column.0 c
      → column ≡ (get_or columns (get_or declared i d).column.0 c).name
      → start ≡ old ++ command_lines (index_commands name columns (take i declared))
      → printed ≡ start ++ canonical_spelling (command.Index name column (get_or declared i d).kind) → pushed ≡ printed ++ 10 ∷ []
      → pushed ≡ old ++ command_lines (index_commands name columns (take (i + 1) declared))
  index_step declared i d c column old start printed pushed l within read called begun spelled ended =
      let k = (get_or declared i d).kind in
      ended ∙ ap (λ t. t ++ 10 ∷ []) spelled
      ∙ append_assoc start (canonical_spelling (command.Index name column k)) (10 ∷ [])
      ∙ ap (λ t. t ++ line_of (command.Index name column k)) begun
      ∙ ap (λ n. (old ++ command_lines (index_commands name columns (take i declared))) ++ line_of (command.Index name n k)) (called ∙ ap (λ (h : Column). h.name) (sym read))
      ∙ append_assoc old (command_lines (index_commands name columns (take i declared))) (line_of (command.Index name c.name k))
      ∙ ap (λ t. old ++ t) (sym (indexes_more declared i d c l (within i d l) read))

-- ---- the lines of a table

pub commands_seen : (name : List ℕ) (columns : List Column) (declared : List DeclaredIndex)
    → filter_map (λ i. option_map (λ (c : Column). command.Index name c.name i.1) (slice_get columns i.0)) (map plain_index declared) ≡ index_commands name columns declared
commands_seen name columns [] = refl
commands_seen name columns (d ∷ declared) =
    ap (cons_option (option_map (λ (c : Column). command.Index name c.name d.kind) (slice_get columns d.column.0))) (commands_seen name columns declared)

pub table_lines : (relations : List RelationState) (name : List ℕ) (s : RelationState)
    → declaration_lines (table_of relations name s ∷ []) ≡ line_of (command.Table name s.schema) ++ command_lines (index_commands name s.schema.columns s.declared)
unfolding table_of
table_lines relations name s =
    ap (flat_map line_of) (append-nil (declarations (table_of relations name s)))
    ∙ ap (λ cs. line_of (command.Table name s.schema) ++ flat_map line_of cs) (commands_seen name s.schema.columns s.declared)

-- a table is spelled behind the lines so far, then a line feed, then the lines of its indexes
pub table_step : (relations : List RelationState) (name : List ℕ) (s : RelationState) (schema : Schema) (start printed pushed whole : List ℕ) → schema ≡ s.schema
    → printed ≡ start ++ canonical_spelling (command.Table name schema) → pushed ≡ printed ++ 10 ∷ []
    → whole ≡ pushed ++ command_lines (index_commands name s.schema.columns s.declared)
    → whole ≡ start ++ declaration_lines (table_of relations name s ∷ [])
table_step relations name s schema start printed pushed whole same spelled ended listed =
    let indexes = command_lines (index_commands name s.schema.columns s.declared) in
    listed ∙ ap (λ t. t ++ indexes) (ended ∙ ap (λ t. t ++ 10 ∷ []) spelled ∙ append_assoc start (canonical_spelling (command.Table name schema)) (10 ∷ []))
    ∙ append_assoc start (line_of (command.Table name schema)) indexes
    ∙ ap (λ (h : Schema). start ++ (line_of (command.Table name h) ++ indexes)) same
    ∙ ap (λ t. start ++ t) (sym (table_lines relations name s))
