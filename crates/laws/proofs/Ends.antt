-- The newest revision of an accepted file ends where the file ends.
use Rattle.std.proofs.Common.{◌≡◌, ◌≤◌, length, Ok, sym, ap, ◌∙◌}
use Rattle.format.specs.Book.{blank, newest_or}
use Rattle.format.specs.Bytes.{Bytes}
use Rattle.format.specs.Chain.{Answer}
use Rattle.format.specs.Revisions.{Opened, opens}
use Rattle.chains.proofs.Ends.{ends_ascend}
use Rattle.chains.proofs.Needs.{needed}
use Rattle.chains.proofs.Openings.{newest_opened}

-- equal acceptances are of equal values
pub same_ok : {A : Type 0} {a b : A} → ◌≡◌ {A = Answer A} (Ok a) (Ok b) → a ≡ b
same_ok e = cc

-- An accepted file has a revision, and its newest one ends where the file ends.
pub opened_ends : (file : Bytes) (o : Opened) → opens file ≡ Ok o → ((newest_or blank o.history).end ≡ length file) × (1 ≤ length o.history)
opened_ends file o e =
    let x = ends_ascend needed file o e in
    (ap (λ r. r.end) (sym (newest_opened file o e)) ∙ x.newest_end, x.some)
