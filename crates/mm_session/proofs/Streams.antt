-- That a request has one answer where memory is found, and that its answer reads no declared index.
use Rattle.std.proofs.Common.{◌≡◌, ℕ, ◌<◌, List, [], ◌∷◌, ◌++◌, true, length, map, refl, sym, ap, ◌∙◌, subst, arith}
use Rattle.std.specs.List.{AllByRecursion}
use Rattle.plain_tables.specs.AnswerText.{answer_text}
use Rattle.plain_tables.specs.Commands.{effect_of}
use Rattle.plain_tables.specs.Databases.{Database}
use Rattle.plain_tables.specs.Effects.{Effect, refused}
use Rattle.plain_tables.specs.ResolvedLaws.{AreDoneAlike, unindexed}
use Rattle.plain_tables.specs.declared.command.Command.TheVariants.{Load}
use Rattle.plain_tables.specs.declared.command.Limits.{Limits}
use Rattle.plain_tables.specs.declared.refusal.Refusal.TheVariants.{LineTooLong, NotUtf8, NotACommand, BlockTooLong, BlockCutShort}
use Rattle.plain_tables.proofs.Alike.{indexes_are_not_read}
use Rattle.plain_tables.proofs.Uniqueness.{spells-one}
use Rattle.mm_csv.specs.BlockReading.{block_records}
use Rattle.plain_streams.specs.Requests.{Request, IsReadable, is_silent}
use Rattle.plain_streams.specs.Division.{last_request}
use Rattle.plain_streams.specs.Runs.{Answers, AnswersAll, IsEffect, line_of}
use Rattle.plain_streams.specs.Runs.{too_long, not_utf8, not_a_command, block_too_long, block_cut_short, command, silent, effect, no_memory}
use Rattle.plain_streams.proofs.Asking.{asks_one}
use Rattle.plain_streams.proofs.Division.{divides_in_one_way}
use Rattle.mm_session.specs.Each.{AnswersEach}
use Rattle.mm_session.specs.StreamLaws.{AnswersAreUnique, FoundMemory, IsOffIndexes, StreamsReadNoIndexes}
use Rattle.mm_session.proofs.Asks.{asks-heard}

-- ---- one effect

module _ (limits : Limits) (tables : Database) (request : Request) where
  -- a line that is too long can't be read
  long-unread : 8192 < length (line_of request) → ¬ (IsReadable (line_of request))
  long-unread long readable = let short = readable.short in omega arith

  -- a request does one thing
  effect_one : (e f : Effect) → IsEffect limits tables request e → IsEffect limits tables request f → e ≡ f
  effect_one e f (too_long h) (too_long k) = refl
  effect_one e f (too_long h) (not_utf8 short k) = absurd (omega arith)
  effect_one e f (too_long h) (not_a_command readable heard none) = absurd (long-unread h readable)
  effect_one e f (too_long h) (block_too_long n asks k) = absurd (long-unread h asks.0)
  effect_one e f (too_long h) (block_cut_short n asks within cut) = absurd (long-unread h asks.0)
  effect_one e f (too_long h) (command c readable heard spells has) = absurd (long-unread h readable)
  effect_one e f (not_utf8 short k) (too_long h) = absurd (omega arith)
  effect_one e f (not_utf8 short k) (not_utf8 also l) = refl
  effect_one e f (not_utf8 short k) (not_a_command readable heard none) = absurd (k readable.utf8)
  effect_one e f (not_utf8 short k) (block_too_long n asks l) = absurd (k asks.0.utf8)
  effect_one e f (not_utf8 short k) (block_cut_short n asks within cut) = absurd (k asks.0.utf8)
  effect_one e f (not_utf8 short k) (command c readable heard spells has) = absurd (k readable.utf8)
  effect_one e f (not_a_command readable heard none) (too_long h) = absurd (long-unread h readable)
  effect_one e f (not_a_command readable heard none) (not_utf8 short k) = absurd (k readable.utf8)
  effect_one e f (not_a_command readable heard none) (not_a_command also word other) = refl
  effect_one e f (not_a_command readable heard none) (block_too_long n asks l) = absurd (none (Load asks.1.0 n) asks.1.1)
  effect_one e f (not_a_command readable heard none) (block_cut_short n asks within cut) = absurd (none (Load asks.1.0 n) asks.1.1)
  effect_one e f (not_a_command readable heard none) (command c also word spells has) = absurd (none c spells)
  effect_one e f (block_too_long n asks k) (too_long h) = absurd (long-unread h asks.0)
  effect_one e f (block_too_long n asks k) (not_utf8 short l) = absurd (l asks.0.utf8)
  effect_one e f (block_too_long n asks k) (not_a_command readable heard none) = absurd (none (Load asks.1.0 n) asks.1.1)
  effect_one e f (block_too_long n asks k) (block_too_long m also l) = refl
  effect_one e f (block_too_long n asks k) (block_cut_short m also within cut) =
      let same : n ≡ m = asks_one request.line n m asks also in absurd (omega arith)
  effect_one e f (block_too_long n asks k) (command c readable heard spells has) = let within = (has n asks).0 in absurd (omega arith)
  effect_one e f (block_cut_short n asks within cut) (too_long h) = absurd (long-unread h asks.0)
  effect_one e f (block_cut_short n asks within cut) (not_utf8 short l) = absurd (l asks.0.utf8)
  effect_one e f (block_cut_short n asks within cut) (not_a_command readable heard none) = absurd (none (Load asks.1.0 n) asks.1.1)
  effect_one e f (block_cut_short n asks within cut) (block_too_long m also l) =
      let same : n ≡ m = asks_one request.line n m asks also in absurd (omega arith)
  effect_one e f (block_cut_short n asks within cut) (block_cut_short m also inside short) = refl
  effect_one e f (block_cut_short n asks within cut) (command c readable heard spells has) = let size = (has n asks).1 in absurd (omega arith)
  effect_one e f (command c readable heard spells has) (too_long h) = absurd (long-unread h readable)
  effect_one e f (command c readable heard spells has) (not_utf8 short l) = absurd (l readable.utf8)
  effect_one e f (command c readable heard spells has) (not_a_command also word none) = absurd (none c spells)
  effect_one e f (command c readable heard spells has) (block_too_long m asks l) = let within = (has m asks).0 in absurd (omega arith)
  effect_one e f (command c readable heard spells has) (block_cut_short m asks within cut) = let size = (has m asks).1 in absurd (omega arith)
  effect_one e f (command c readable heard spells has) (command d also word spelled had) =
      ap (effect_of (block_records request.block) limits tables) (spells-one (line_of request) c d spells spelled)

  -- a silent line has no effect
  silent_none : (e : Effect) → IsReadable (line_of request) → is_silent (line_of request) ≡ true → ¬ (IsEffect limits tables request e)
  silent_none e readable quiet (too_long h) = long-unread h readable
  silent_none e readable quiet (not_utf8 short k) = k readable.utf8
  silent_none e readable quiet (not_a_command also heard none) = cc
  silent_none e readable quiet (block_too_long n asks k) = let heard = asks-heard request.line n asks in cc
  silent_none e readable quiet (block_cut_short n asks within cut) = let heard = asks-heard request.line n asks in cc
  silent_none e readable quiet (command c also heard spells has) = cc

  answer_one : (a b : List ℕ) (d e : Database) → Answers limits tables request a d → Answers limits tables request b e → FoundMemory a → FoundMemory b
      → (a ≡ b) × (d ≡ e)
  answer_one a b d e (no_memory readable heard has) other found also = absurd (found refl)
  answer_one a b d e (silent readable quiet) (silent also too) found there = (refl, refl)
  answer_one a b d e (silent readable quiet) (effect f h) found there = absurd (silent_none f readable quiet h)
  answer_one a b d e (silent readable quiet) (no_memory also heard has) found there = absurd (there refl)
  answer_one a b d e (effect f h) (silent readable quiet) found there = absurd (silent_none f readable quiet h)
  answer_one a b d e (effect f h) (effect g k) found there =
      let same : f ≡ g = effect_one f g h k in
      (ap (λ (x : Effect). answer_text x.outcome) same, ap (λ (x : Effect). x.database) same)
  answer_one a b d e (effect f h) (no_memory also heard has) found there = absurd (there refl)

  -- the answer of tables that are alike but for the declared indexes
  answer_alike : (others : Database) (answer : List ℕ) (after : Database) → IsOffIndexes request → map unindexed tables ≡ map unindexed others
      → Answers limits tables request answer after → (last : Database) × Answers limits others request answer last × (map unindexed after ≡ map unindexed last)
  answer_alike others answer after off alike (silent readable quiet) = (others, silent readable quiet, alike)
  answer_alike others answer after off alike (no_memory readable heard has) = (others, no_memory readable heard has, alike)
  answer_alike others answer after off alike (effect e (too_long h)) = (others, effect (refused others LineTooLong) (too_long h), alike)
  answer_alike others answer after off alike (effect e (not_utf8 short k)) = (others, effect (refused others NotUtf8) (not_utf8 short k), alike)
  answer_alike others answer after off alike (effect e (not_a_command readable heard none)) =
      (others, effect (refused others NotACommand) (not_a_command readable heard none), alike)
  answer_alike others answer after off alike (effect e (block_too_long n asks k)) = (others, effect (refused others BlockTooLong) (block_too_long n asks k), alike)
  answer_alike others answer after off alike (effect e (block_cut_short n asks within cut)) =
      (others, effect (refused others BlockCutShort) (block_cut_short n asks within cut), alike)
  answer_alike others answer after off alike (effect e (command c readable heard spells has)) =
      let records = block_records request.block in
      let there : Effect = effect_of records limits others c in
      let done : AreDoneAlike (effect_of records limits tables c) there = indexes_are_not_read records limits tables others c (off c spells).0 (off c spells).1 alike in (
        there.database,
        subst (λ o. Answers limits others request (answer_text o) there.database) (sym done.answered) (effect there (command c readable heard spells has)),
        done.left,
      )

-- ---- all requests

each_one : (limits : Limits) (from : Database) (requests : List Request) (answers others : List ℕ) (after last : Database)
    → AnswersEach FoundMemory limits from requests answers after → AnswersEach FoundMemory limits from requests others last
    → (answers ≡ others) × (after ≡ last)
each_one limits from [] answers others after last (none, same) (nothing, also) = (none ∙ sym nothing, same ∙ sym also)
each_one limits from (request ∷ requests) answers others after last (first, more, next, here, found, rest, joined) (one, further, to, there, had, behind, whole) =
    let (same, tables) = answer_one limits from request first one next to here there found had in
    let rest' : AnswersEach FoundMemory limits to requests more after = subst (λ d. AnswersEach FoundMemory limits d requests more after) tables rest in
    let (answered, left) = each_one limits to requests more further after last rest' behind in
    (joined ∙ ap (λ f. f ++ more) same ∙ ap (λ m. one ++ m) answered ∙ sym whole, left)

pub answers_are_unique : AnswersAreUnique
answers_are_unique limits from stream finished answers others after last (requests, rest, divides, all) (also, end, divided, each) =
    let (same, left) = divides_in_one_way stream also end requests rest divided divides in
    let P : List Request → Type 0 = λ rs. AnswersEach FoundMemory limits from rs others last in
    each_one limits from (requests ++ last_request finished rest) answers others after last all
    (subst (λ r. P (requests ++ last_request finished r)) left (subst (λ rs. P (rs ++ last_request finished end)) same each))

all_alike : (limits : Limits) (from others : Database) (requests : List Request) (answers : List ℕ) (after : Database)
    → AllByRecursion IsOffIndexes requests → map unindexed from ≡ map unindexed others → AnswersAll limits from requests answers after
    → (last : Database) × AnswersAll limits others requests answers last × (map unindexed after ≡ map unindexed last)
all_alike limits from others [] answers after off alike (none, same) = (others, (none, refl), ap (map unindexed) same ∙ alike)
all_alike limits from others (request ∷ requests) answers after off alike (first, more, next, here, rest, joined) =
    let (to, there, left) = answer_alike limits from request others first next off.0 alike here in
    let (last, behind, end) = all_alike limits next to requests more after off.1 left rest in
    (last, (first, more, to, there, behind, joined), end)

pub streams_read_no_indexes : StreamsReadNoIndexes
streams_read_no_indexes limits from others stream requests finished answers after (whole, rest, divides, are) off alike (also, end, divided, all) =
    let (same, left) = divides_in_one_way stream also end whole rest divided divides in
    let there : AnswersAll limits from requests answers after =
    subst (λ rs. AnswersAll limits from rs answers after) (sym are)
    (subst (λ r. AnswersAll limits from (whole ++ last_request finished r) answers after) left
    (subst (λ rs. AnswersAll limits from (rs ++ last_request finished end) answers after) same all)) in
    let (last, run, ends) = all_alike limits from others requests answers after off alike there in
    (last, (whole, rest, divides, subst (λ rs. AnswersAll limits others rs answers last) are run), ends)
