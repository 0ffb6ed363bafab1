-- Small truths that a wrong definition would break.
use Rattle.std.specs.Prelude.{◌≡◌, true, false, List, [], ◌∷◌, ◌++◌, replicate, Some, None, codes, Option}
use Rattle.faults.specs.declared.fault.Fault.{Fault}
use Rattle.format.specs.Book.{Call, open_file, begin, put, remove, commit, abandon, back}
use Rattle.format.specs.Frames.{body_fault, frame}
use Rattle.format.specs.Law.{shut_over}
use Rattle.format.specs.Objects.{object}
use Rattle.format.specs.Revisions.{opens}
use Rattle.format.specs.Shows.{Reads, reads_to, fault, fault_shown, shown_got, shown_open, answers}
use Rattle.format.specs.Space.{eol_to, eol_at}
use Rattle.format.specs.Tokens.{name, token_at}
use Rattle.format.specs.Worked.{worked_file}

unfoldable pub shown_body : Option Fault → Reads
shown_body None = reads_to 0
shown_body (Some f) = fault_shown f

pub record ReaderTruths : Type 0 where
  -- CR LF is one end of line, CR before another byte is one by itself
  pub cr_lf_is_one_end : eol_at 0 (codes "\r\nx") ≡ eol_to 2 (codes "x")
  pub cr_is_an_end : eol_at 0 (codes "\rx") ≡ eol_to 1 (codes "x")
  -- `#` and two hex digits give one byte; one digit is too few
  pub hash_gives_a_byte : (token_at 0 (codes "/A#42")).kind ≡ name (codes "AB")
  pub half_a_hash : shown_got (object 0 (codes "/A#4")) ≡ fault 5 1 0 0
  -- a comment is white space
  pub comments_are_space : shown_got (object 0 (codes "%[\r7")) ≡ reads_to 4
  -- integers end at 2147483647 and at -2147483648
  pub highest_integer : shown_got (object 0 (codes "2147483647")) ≡ reads_to 10
  pub past_highest : shown_got (object 0 (codes "2147483648")) ≡ fault 7 1 0 0
  pub lowest_integer : shown_got (object 0 (codes "-2147483648")) ≡ reads_to 11
  pub past_lowest : shown_got (object 0 (codes "-2147483649")) ≡ fault 7 1 0 0
  -- an ill-formed number is not one past its bound
  pub junk_before_bound : shown_got (object 0 (codes "99999999999x")) ≡ fault 5 1 0 0
  -- a mark that the end of the bytes cuts short
  pub lone_greater : shown_got (object 0 (codes ">")) ≡ fault 4 1 1 0
  -- arrays nest 32 deep, and not 33
  pub arrays_32_deep : shown_got (object 0 (replicate 32 91 ++ replicate 32 93)) ≡ reads_to 64
  pub arrays_33_deep : shown_got (object 0 (replicate 33 91 ++ replicate 33 93)) ≡ fault 6 2 32 0
  -- and so do the brackets of a string
  pub brackets_32_deep : shown_got (object 0 (replicate 32 40 ++ replicate 32 41)) ≡ reads_to 64
  pub brackets_33_deep : shown_got (object 0 (replicate 33 40 ++ replicate 33 41)) ≡ fault 6 1 32 0
  -- a key is the same however it is spelled
  pub key_spelled_otherwise : shown_got (object 0 (codes "<</A 1/#41 2>>")) ≡ fault 8 2 6 0
  -- unless `R` is found behind a fit generation, the integer stands alone
  pub no_generation_65536 : shown_got (object 0 (codes "1 65536 R")) ≡ reads_to 1
  -- a value is missing where the dictionary ends
  pub missing_value : shown_got (object 0 (codes "<</A>>")) ≡ fault 5 2 4 0
  -- a stream's Length counts its data
  pub stream_fits : shown_body (body_fault (codes "<</Length 3>>stream\nabc\nendstream")) ≡ reads_to 0
  pub stream_too_short : shown_body (body_fault (codes "<</Length 2>>stream\nabc\nendstream")) ≡ fault 9 2 22 0
  -- Length is a direct integer
  pub length_by_reference : shown_body (body_fault (codes "<</Length 1 0 R>>stream\nabc\nendstream")) ≡ fault 9 2 17 0
  -- nothing stands around a body
  pub space_behind_body : shown_body (body_fault (codes "7 ")) ≡ fault 14 2 1 0
  pub space_before_body : shown_body (body_fault (codes " 7")) ≡ fault 14 2 0 0
  pub no_body : shown_body (body_fault (codes "")) ≡ fault 4 2 0 0
  -- an object starts right at its offset
  pub object_not_at_offset : shown_got (frame 9 (codes " 1 0 obj 7 endobj")) ≡ fault 9 2 9 0

pub record FileTruths : Type 0 where
  -- the header
  pub no_header : shown_open (opens (codes "%PDF-1.8\n1 0 obj\n<</A 2 0 R>>\nendobj\n2 0 obj\n(pump)\nendobj\nxref\n0 3\n0000000000 65535 f \n0000000009 00000 n \n0000000037 00000 n \ntrailer\n<<\n/Root 1 0 R\n/Size 3\n>>\nstartxref\n59\n%%EOF\n")) ≡ fault 2 4 0 0
  -- the tail ends with an end of line
  pub no_tail : shown_open (opens (codes "%PDF-1.4\n1 0 obj\n<</A 2 0 R>>\nendobj\n2 0 obj\n(pump)\nendobj\nxref\n0 3\n0000000000 65535 f \n0000000009 00000 n \n0000000037 00000 n \ntrailer\n<<\n/Root 1 0 R\n/Size 3\n>>\nstartxref\n59\n%%EOF")) ≡ fault 3 4 180 0
  -- a section's offset past the file finds no bytes
  pub offset_past_file : shown_open (opens (codes "%PDF-1.4\n1 0 obj\n<</A 2 0 R>>\nendobj\n2 0 obj\n(pump)\nendobj\nxref\n0 3\n0000000000 65535 f \n0000000009 00000 n \n0000000037 00000 n \ntrailer\n<<\n/Root 1 0 R\n/Size 3\n>>\nstartxref\n999\n%%EOF\n")) ≡ fault 4 3 182 0
  -- subsections ascend
  pub subsections_ascend : shown_open (opens (codes "%PDF-1.4\n1 0 obj\n<</A 2 0 R>>\nendobj\n2 0 obj\n(pump)\nendobj\nxref\n0 1\n0000000000 65535 f \n2 1\n0000000037 00000 n \n1 1\n0000000009 00000 n \ntrailer\n<<\n/Root 1 0 R\n/Size 3\n>>\nstartxref\n59\n%%EOF\n")) ≡ fault 10 3 112 0
  -- Prev lies below its section
  pub prev_at_itself : shown_open (opens (codes "%PDF-1.4\n1 0 obj\n<</A 2 0 R>>\nendobj\n2 0 obj\n(pump)\nendobj\nxref\n0 3\n0000000000 65535 f \n0000000009 00000 n \n0000000037 00000 n \ntrailer\n<<\n/Root 1 0 R\n/Size 3/Prev 59\n>>\nstartxref\n59\n%%EOF\n")) ≡ fault 12 4 59 0
  -- a free link lies below Size
  pub free_link_past_size : shown_open (opens (codes "%PDF-1.4\n1 0 obj\n<</A 2 0 R>>\nendobj\n2 0 obj\n(pump)\nendobj\nxref\n0 3\n0000000000 65535 f \n0000000009 00000 n \n0000000003 00001 f \ntrailer\n<<\n/Root 1 0 R\n/Size 3\n>>\nstartxref\n59\n%%EOF\n")) ≡ fault 12 4 59 2
  -- a number in use has a generation of at most 65534
  pub used_with_65535 : shown_open (opens (codes "%PDF-1.4\n1 0 obj\n<</A 2 0 R>>\nendobj\n2 0 obj\n(pump)\nendobj\nxref\n0 3\n0000000000 65535 f \n0000000009 00000 n \n0000000037 65535 n \ntrailer\n<<\n/Root 1 0 R\n/Size 3\n>>\nstartxref\n59\n%%EOF\n")) ≡ fault 12 4 59 2
  -- the object bears its entry's number
  pub another_object : shown_open (opens (codes "%PDF-1.4\n1 0 obj\n<</A 2 0 R>>\nendobj\n2 0 obj\n(pump)\nendobj\nxref\n0 3\n0000000000 65535 f \n0000000009 00000 n \n0000000009 00000 n \ntrailer\n<<\n/Root 1 0 R\n/Size 3\n>>\nstartxref\n59\n%%EOF\n")) ≡ fault 12 4 59 2
  -- an object ends before its section
  pub object_ends_before_section : shown_open (opens (codes "%PDF-1.4\n1 0 obj\n<</A 2 0 R>>\nendobj\n2 0 obj\n(pump)\nxref\n0 3\n0000000000 65535 f \n0000000009 00000 n \n0000000037 00000 n \ntrailer\n<<\n/Root 1 0 R\n/Size 3\n>>\nstartxref\n52\n%%EOF\n")) ≡ fault 4 2 52 2
  -- Size is 1 plus the highest number
  pub size_too_large : shown_open (opens (codes "%PDF-1.4\n1 0 obj\n<</A 2 0 R>>\nendobj\n2 0 obj\n(pump)\nendobj\nxref\n0 3\n0000000000 65535 f \n0000000009 00000 n \n0000000037 00000 n \ntrailer\n<<\n/Root 1 0 R\n/Size 4\n>>\nstartxref\n59\n%%EOF\n")) ≡ fault 12 4 59 0
  -- Root has its generation
  pub root_generation : shown_open (opens (codes "%PDF-1.4\n1 0 obj\n<</A 2 0 R>>\nendobj\n2 0 obj\n(pump)\nendobj\nxref\n0 3\n0000000000 65535 f \n0000000009 00000 n \n0000000037 00000 n \ntrailer\n<<\n/Root 1 1 R\n/Size 3\n>>\nstartxref\n59\n%%EOF\n")) ≡ fault 12 4 59 1
  -- Root is a reference
  pub root_is_a_reference : shown_open (opens (codes "%PDF-1.4\n1 0 obj\n<</A 2 0 R>>\nendobj\n2 0 obj\n(pump)\nendobj\nxref\n0 3\n0000000000 65535 f \n0000000009 00000 n \n0000000037 00000 n \ntrailer\n<<\n/Root 1\n/Size 3\n>>\nstartxref\n59\n%%EOF\n")) ≡ fault 11 3 136 0
  -- Encrypt is absent
  pub no_encryption : shown_open (opens (codes "%PDF-1.4\n1 0 obj\n<</A 2 0 R>>\nendobj\n2 0 obj\n(pump)\nendobj\nxref\n0 3\n0000000000 65535 f \n0000000009 00000 n \n0000000037 00000 n \ntrailer\n<<\n/Root 1 0 R\n/Size 3/Encrypt 7\n>>\nstartxref\n59\n%%EOF\n")) ≡ fault 11 3 136 0
  -- an entry is 20 bytes
  pub entry_ill_formed : shown_open (opens (codes "%PDF-1.4\n1 0 obj\n<</A 2 0 R>>\nendobj\n2 0 obj\n(pump)\nendobj\nxref\n0 3\n0000000000 65535 f \n0000000009 00000 m \n0000000037 00000 n \ntrailer\n<<\n/Root 1 0 R\n/Size 3\n>>\nstartxref\n59\n%%EOF\n")) ≡ fault 10 3 88 0
  -- numbers end at 999
  pub number_past_999 : shown_open (opens (codes "%PDF-1.4\n1 0 obj\n<</A 2 0 R>>\nendobj\n2 0 obj\n(pump)\nendobj\nxref\n1000 1\n0000000000 65535 f \ntrailer\n<<\n/Root 1 0 R\n/Size 3\n>>\nstartxref\n59\n%%EOF\n")) ≡ fault 13 4 0 0
  -- a dictionary stands behind `trailer`
  pub trailer_has_a_dictionary : shown_open (opens (codes "%PDF-1.4\n1 0 obj\n<</A 2 0 R>>\nendobj\n2 0 obj\n(pump)\nendobj\nxref\n0 3\n0000000000 65535 f \n0000000009 00000 n \n0000000037 00000 n \ntrailer\n[]<<\n/Root 1 0 R\n/Size 3\n>>\nstartxref\n59\n%%EOF\n")) ≡ fault 5 2 136 0

-- calls on a book over a flat store of 200 bytes that holds the worked file, and what each is answered
abbrev refusals : List Call
refusals = begin ∷ open_file ∷ open_file ∷ put false 2 (codes "7") ∷ begin ∷ begin ∷ back 1 ∷ put true 2 (codes "7") ∷ commit false ∷ put false 0 (codes "7") ∷ put false 4 (codes "7") ∷ put false 3 (codes "7 ") ∷ put false 3 (codes "7") ∷ put false 3 (codes "7") ∷ remove false 3 ∷ remove false 1 ∷ commit true ∷ commit false ∷ abandon false ∷ abandon false ∷ back 2 ∷ back 1 ∷ []

pub record Truths : Type 0 where
  pub readers : ReaderTruths
  pub files : FileTruths
  pub calls : answers 200 (shut_over worked_file 19) refusals ≡ fault 41 5 0 0 ∷ reads_to 0 ∷ fault 42 5 0 0 ∷ fault 44 5 0 2 ∷ reads_to 0 ∷ fault 43 5 0 0 ∷ fault 43 5 0 0 ∷ fault 45 5 0 2 ∷ fault 52 5 0 0 ∷ fault 48 5 0 0 ∷ fault 48 5 0 4 ∷ fault 14 2 1 3 ∷ reads_to 0 ∷ fault 50 5 0 3 ∷ fault 47 5 0 3 ∷ fault 49 5 0 1 ∷ fault 45 5 0 0 ∷ fault 54 6 0 0 ∷ reads_to 0 ∷ fault 44 5 0 0 ∷ fault 46 5 0 0 ∷ reads_to 0 ∷ []
