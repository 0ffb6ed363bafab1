-- Keys of a dictionary: none stands twice.
use Rattle.std.proofs.Common.{◌≡◌, true, false, sym, refl, subst}
use Rattle.format.specs.Bytes.{Bytes, same}
use Rattle.format.specs.Objects.{Obj, Entries, no_entries, more_entries, holds}
use Rattle.locality.proofs.Cases.{cases, not_both}
use Rattle.locality.proofs.Objects.{same_eq}
use Rattle.locality.proofs.Tests.{or_none}
use Rattle.grammar.specs.Trees.{Absent}
use Rattle.grammar.proofs.References.{same_self}

-- no key of the entries es is among those before
abbrev pub Apart : Entries → Entries → Type 0
Apart no_entries seen = Unit {0}
Apart (more_entries k kb vb o es) seen = (holds k seen ≡ false) × Apart es seen

pub same_not : (j k : Bytes) → (k ≡ j → ⊥) → same j k ≡ false
same_not j k f = cases (same j k) (λ e. absurd (f (sym (same_eq j k e)))) (λ e. e)

not_same : (j k : Bytes) → same j k ≡ false → k ≡ j → ⊥
not_same j k e q = not_both (same j k) (subst (λ z. same j z ≡ true) (sym q) (same_self j)) e

-- one key more before
pub apart_more : (k kb vb : Bytes) (o : Obj) (es seen : Entries) → Absent k es → Apart es seen → Apart es (more_entries k kb vb o seen)
unfolding holds
apart_more k kb vb o no_entries seen a h = tt
apart_more k kb vb o (more_entries j jb wb v es) seen (Absent.more f a) h = (rw (same_not j k f, holds) h.0, apart_more k kb vb o es seen a h.1)

-- that key is not among them
pub apart_absent : (k kb vb : Bytes) (o : Obj) (es seen : Entries) → Apart es (more_entries k kb vb o seen) → Absent k es
unfolding holds
apart_absent k kb vb o no_entries seen h = Absent.none
apart_absent k kb vb o (more_entries j jb wb v es) seen h = Absent.more (not_same j k (or_none (same j k) (holds j seen) h.0).0) (apart_absent k kb vb o es seen h.1)

-- nor among the others
pub apart_fewer : (k kb vb : Bytes) (o : Obj) (es seen : Entries) → Apart es (more_entries k kb vb o seen) → Apart es seen
unfolding holds
apart_fewer k kb vb o no_entries seen h = tt
apart_fewer k kb vb o (more_entries j jb wb v es) seen h = ((or_none (same j k) (holds j seen) h.0).1, apart_fewer k kb vb o es seen h.1)

pub apart_none : (es : Entries) → Apart es no_entries
unfolding holds
apart_none no_entries = tt
apart_none (more_entries k kb vb o es) = (refl, apart_none es)
