use Rattle.std.proofs.Common.{◌≡◌, ◌≤◌, ◌++◌, vec_items, vec_len, vec_capacity}
use Rattle.book.specs.Books.{moment_of}
use Rattle.reports.specs.Differences.{pairs_of}
use Rattle.reports.proofs.Between.{behind}
use Rattle.reports.proofs.differences.differences.Given as goal

abbrev pub invariant-loop-n : goal.invariant-loop-n
invariant-loop-n g l =
    (vec_len l.all ≤ l.n)
    × (l.count ≤ vec_capacity l.all)
    × (pairs_of (vec_items l.all) ++ behind (moment_of g.S.Store.meaning l.book) l.j l.k l.count l.n
    ≡ behind (moment_of g.S.Store.meaning l.book) l.j l.k l.count 0)
