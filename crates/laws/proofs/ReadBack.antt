-- A file with an acceptable update behind it opens as its old revisions and the one that the update makes.
use Rattle.std.proofs.Common.{◌≡◌, ◌+◌, length, sym, refl, ◌∙◌, length-append}
use Rattle.format.specs.Book.{addition}
use Rattle.format.specs.Bytes.{Bytes}
use Rattle.format.specs.Theorems.{UpdatesReadBack}
use Rattle.format.specs.Updates.{Update}
use Rattle.format.specs.Writing.{update_section}
use Rattle.chains.proofs.Added.{addition_length, updates_open}
use Rattle.chains.proofs.Needs.{needed}
use Rattle.laws.proofs.ReadSection.{Ready, ready, section_for, revision_for, section_makes, reads_back}

-- the section ends where the file with the update ends
section_end : (file : Bytes) (u : Update) → (section_for file u).end ≡ length file + length (addition file u)
unfolding update_section
section_end file u = sym (addition_length file u) ∙ length-append file (addition file u)

-- An acceptable update within the limits reads back as it was written.
pub updates_read_back : UpdatesReadBack
updates_read_back file o u h a w =
    let k : Ready file u = ready file o u h a w in
    let m = section_makes file u k in (
      revision_for file u k,
      record {
        accepted = updates_open needed file o u (revision_for file u k) h w (reads_back file u k);
        shows = m.1;
        offset = refl;
        end = section_end file u;
        size = refl;
        root = (refl, refl);
        links = m.2;
      },
    )
