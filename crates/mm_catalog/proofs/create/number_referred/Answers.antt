use Rattle.std.proofs.Common.{map, ap, ◌∙◌}
use Rattle.std.specs.List.{position}
use Rattle.std.specs.Option.{option_and_then}
use Rattle.std.specs.Str.{bytes_eq}
use Rattle.std.specs.String.{string_bytes}
use Rattle.mm_catalog.proofs.Aimed.{key_found}
use Rattle.mm_catalog.proofs.create.number_referred.Goals as goal

pub returns : goal.returns
returns c =
    c.get_index_of.ensures.index ∙ key_found c.args.names.now.keys c.as_str.result.now
    ∙ ap (λ name. position (λ n. bytes_eq n name) (map string_bytes c.args.names.now.keys)) c.as_str.ensures
    ∙ ap (option_and_then (λ name. position (λ n. bytes_eq n name) (map string_bytes c.args.names.now.keys))) c.in_ok-name.ensures
