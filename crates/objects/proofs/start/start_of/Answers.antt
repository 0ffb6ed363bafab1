use Rattle.std.proofs.Common.{inl, inr, ◌∙◌, w32, w64, SFits, rules}
use Rattle.std.proofs.lemmas.Int.{to_z-of_z}
use Rattle.objects.proofs.Cases.{handed, ok_or_ok, ok_or_err}
use Rattle.objects.proofs.Founds.{flawed_one}
use Rattle.objects.proofs.Starts.{starts_none, starts_lone, starts_count, starts_array, starts_dict, lone_signed, lone_real, lone_name, lone_text, lone_hex, lone_word, stray_word, stray_array, stray_dict, stray_end}
use Rattle.objects.proofs.start.start_of.Goals as goal

pub returns-in-Unsigned : goal.returns-in-Unsigned
returns-in-Unsigned c =
    let told = c.in_ok-found.ensures in
    starts_count _ _ _ told.is told.placed _ _ c.in-Unsigned.is (rw (c.to.ensures.src, c.to.ensures.place) at c.whole_number.ensures)

pub returns-in-OpenArray : goal.returns-in-OpenArray
returns-in-OpenArray c = let told = c.in_ok-found.ensures in starts_array _ _ _ told.is told.placed c.in-OpenArray.is

pub returns-in-OpenDict : goal.returns-in-OpenDict
returns-in-OpenDict c = let told = c.in_ok-found.ensures in starts_dict _ _ _ told.is told.placed c.in-OpenDict.is

pub returns-in-Signed : goal.returns-in-Signed
returns-in-Signed c =
    let told = c.in_ok-found.ensures in
    let fits : SFits w64 c.from.result = search rules in
    let fits-z : SFits w32 c.in-Signed.z = search rules in
    starts_lone _ _ _ told.is told.placed _ _ c.in-Signed.is (lone_signed _ _ (to_z-of_z w64 c.from.result fits ∙ c.from.ensures ∙ to_z-of_z w32 c.in-Signed.z fits-z))

pub returns-in-Real : goal.returns-in-Real
returns-in-Real c = let told = c.in_ok-found.ensures in starts_lone _ _ _ told.is told.placed _ _ c.in-Real.is (lone_real _)

pub returns-in-Name : goal.returns-in-Name
returns-in-Name c = let told = c.in_ok-found.ensures in starts_lone _ _ _ told.is told.placed _ _ c.in-Name.is (lone_name _)

pub returns-in-Text : goal.returns-in-Text
returns-in-Text c = let told = c.in_ok-found.ensures in starts_lone _ _ _ told.is told.placed _ _ c.in-Text.is (lone_text _)

pub returns-in-Hex : goal.returns-in-Hex
returns-in-Hex c = let told = c.in_ok-found.ensures in starts_lone _ _ _ told.is told.placed _ _ c.in-Hex.is (lone_hex _)

pub returns-in_ok-shape-in-Word : goal.returns-in_ok-shape-in-Word
returns-in_ok-shape-in-Word c =
    let told = c.in_ok-found.ensures in
    let shape = ok_or_ok _ _ _ c.in_ok-shape-in-Word.ensures.value ∙ c.word_shape.ensures in
    starts_lone _ _ _ told.is told.placed _ _ c.in-Word.is (lone_word _ _ shape)

pub returns-in_err-shape-in-Word : goal.returns-in_err-shape-in-Word
returns-in_err-shape-in-Word c =
    let z = handed c.from_residual-in_err-shape-in-Word.result c.in_err-shape-in-Word.field-0.0 c.from_residual-in_err-shape-in-Word.ensures.1 in
    let none = ok_or_err _ _ _ c.in_err-shape-in-Word.ensures.value in
    rw z (starts_none _ _ _ c.in_ok-found.ensures.is _ c.in-Word.is (stray_word _ (none.0 ∙ c.word_shape.ensures)) _ (none.1 ∙ c.misplaced.ensures))

pub returns-in-CloseArray : goal.returns-in-CloseArray
returns-in-CloseArray c =
    let told = c.in_ok-found.ensures in
    let fault = c.misplaced-in-CloseArray.ensures in
    elim c.in-CloseArray.is [
      | inl i ↦ starts_none _ _ _ told.is _ i stray_array _ fault
      | inr j ↦ elim j [ inl i ↦ starts_none _ _ _ told.is _ i stray_dict _ fault | inr i ↦ starts_none _ _ _ told.is _ i stray_end _ fault ]
    ]

pub returns-in_err-found : goal.returns-in_err-found
returns-in_err-found c =
    let z = handed c.from_residual.result c.in_err-found.field-0.0 c.from_residual.ensures.1 in
    rw z (flawed_one _ _ _ c.in_err-found.ensures.is)
