use Rattle.std.proofs.Common.{rules}
use Rattle.objects.proofs.Cases.{Moved}
use Rattle.objects.proofs.Dictionaries.{refused_within, dictionary_moved}
use Rattle.objects.proofs.dictionary.dictionary_at.Goals as goal

pub map_err-requires : goal.map_err-requires
map_err-requires c = search (rules, refused_within)

pub returns : goal.returns
returns c =
    let moved : Moved c.args.base c.marked.result c.map_err.result = search rules in
    dictionary_moved _ _ _ _ _ c.marked.ensures moved
