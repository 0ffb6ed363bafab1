-- The examples, by computation.
use Rattle.std.proofs.Common.{refl}
use Rattle.format.specs.Account.{computes_account}
use Rattle.format.specs.Book.{computes_book}
use Rattle.format.specs.Bytes.{computes_bytes}
use Rattle.format.specs.Chain.{computes_chain}
use Rattle.format.specs.Frames.{computes_frames}
use Rattle.format.specs.Lines.{computes_lines}
use Rattle.format.specs.Names.{computes_names}
use Rattle.format.specs.Numbers.{computes_numbers}
use Rattle.format.specs.Objects.{computes_objects}
use Rattle.format.specs.Questions.{computes_questions}
use Rattle.format.specs.Revisions.{computes_revisions}
use Rattle.format.specs.Sections.{computes_sections}
use Rattle.format.specs.Shows.{computes_shows}
use Rattle.format.specs.Space.{computes_space}
use Rattle.format.specs.Strings.{computes_strings}
use Rattle.format.specs.Tokens.{computes_tokens}
use Rattle.format.specs.Updates.{computes_updates}
use Rattle.format.specs.Writing.{computes_writing}
use Rattle.format.specs.Truths.{Truths, shown_body}
use Rattle.format.specs.Worked.{WorkedCases}

-- every definition of the format and of the book
unfoldable pub computes : Unit {0}
unfolding computes_account computes_book computes_bytes computes_chain computes_frames computes_lines computes_names computes_numbers computes_objects computes_questions computes_revisions computes_sections computes_shows computes_space computes_strings computes_tokens computes_updates computes_writing
computes = tt

pub worked_cases : WorkedCases
unfolding computes
worked_cases = record {
  reads1 = record { is_long = refl; ends_at = refl; shows = refl };
  puts_give = refl;
  reads2 = record { is_long = refl; ends_at = refl; shows = refl };
  removal_gives = refl;
  reads3 = record { is_long = refl; ends_at = refl; shows = refl };
  reuse_gives = refl;
  reads4 = record { is_long = refl; ends_at = refl; shows = refl };
  back_gives = refl;
  string = refl;
  name = refl;
  array = refl;
  key = refl;
}

pub truths : Truths
unfolding computes shown_body
truths = record {
  readers = record { cr_lf_is_one_end = refl; cr_is_an_end = refl; hash_gives_a_byte = refl; half_a_hash = refl; comments_are_space = refl; highest_integer = refl; past_highest = refl; lowest_integer = refl; past_lowest = refl; junk_before_bound = refl; lone_greater = refl; arrays_32_deep = refl; arrays_33_deep = refl; brackets_32_deep = refl; brackets_33_deep = refl; key_spelled_otherwise = refl; no_generation_65536 = refl; missing_value = refl; stream_fits = refl; stream_too_short = refl; length_by_reference = refl; space_behind_body = refl; space_before_body = refl; no_body = refl; object_not_at_offset = refl };
  files = record { no_header = refl; no_tail = refl; offset_past_file = refl; subsections_ascend = refl; prev_at_itself = refl; free_link_past_size = refl; used_with_65535 = refl; another_object = refl; object_ends_before_section = refl; size_too_large = refl; root_generation = refl; root_is_a_reference = refl; no_encryption = refl; entry_ill_formed = refl; number_past_999 = refl; trailer_has_a_dictionary = refl };
  calls = refl;
}
