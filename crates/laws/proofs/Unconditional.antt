-- The law over whole runs and what follows from it, with nothing left to assume.
use Rattle.format.specs.Law.{Law}
use Rattle.format.specs.Theorems.{PrefixesOpen}
use Rattle.chains.proofs.Needs.{needed}
use Rattle.chains.proofs.Prefixes.{prefixes_open}
use Rattle.laws.specs.Consequences.{FileFollowsAccount, GoingBackLeavesNoTrace, RevisionsStay, WithdrawnNumbersReturnHigher, UpdatesKeepFreeList, CommitsKeepFreeList}
use Rattle.laws.proofs.Generations.{withdrawn_return_higher}
use Rattle.laws.proofs.Law.{law_from}
use Rattle.laws.proofs.Links.{updates_keep_free_list, commits_keep_free_list}
use Rattle.laws.proofs.ReadBack.{updates_read_back}
use Rattle.laws.proofs.TellApart.{updates_tell_apart}
use Rattle.laws.proofs.Traces.{file_follows_account, going_back_leaves_no_trace, revisions_stay}

-- the bytes of a file up to a revision's end open as the revisions up to it
pub prefixes : PrefixesOpen
prefixes = prefixes_open needed

-- the law over whole runs
pub law : Law
law = law_from prefixes updates_read_back updates_tell_apart

-- the file after a run follows its account
pub file_follows : FileFollowsAccount
file_follows = file_follows_account prefixes updates_read_back

-- going back leaves no trace
pub no_trace : GoingBackLeavesNoTrace
no_trace = going_back_leaves_no_trace prefixes updates_read_back

-- a revision stays as long as no call goes back behind it
pub stay : RevisionsStay
stay = revisions_stay prefixes updates_read_back

-- a number that was withdrawn returns with a higher generation
pub return_higher : WithdrawnNumbersReturnHigher
return_higher = withdrawn_return_higher prefixes updates_read_back

-- each revision that an update made has a free list
pub updates_keep : UpdatesKeepFreeList
updates_keep = updates_keep_free_list prefixes updates_read_back

-- so has the newest revision after a commit
pub commits_keep : CommitsKeepFreeList
commits_keep = commits_keep_free_list prefixes updates_read_back
