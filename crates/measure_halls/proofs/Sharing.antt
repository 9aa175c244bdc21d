-- A hall may be shared by threads.
use denote.RattleType.{RattleType}
use denote.Param.Send.{IsSend, IsSync, sendable}
use Rattle.std.proofs.vec.Vec.TheSendSync as vec
use Rattle.std.proofs.alloc.Global.TheSendSync as global
use Rattle.jm_base.proofs.text.Text.TheSendSync as text
use Rattle.keep_port.specs.declared.keeper.Keeper.{Ghosts as KeeperGhosts}
use Rattle.account_book.specs.declared.rules.Rules.{Ghosts as RulesGhosts}
use Rattle.account_book.specs.contracts.book.Book as book
use Rattle.account_book.proofs.account.Account.TheSendSync as account
use Rattle.account_lock.proofs.lock.AccountLock.TheSendSync as lock
use Rattle.account_hall.specs.contracts.hall.Hall as hall

pub book_send : (K R : RattleType) (k : KeeperGhosts K.Denot) (r : RulesGhosts R.Denot) → IsSend K
    → IsSend R → IsSend (book.the_row K R k r)
book_send K R k r sk sr = let a = account.the_send in search sendable depth 20

pub hall_sync : (K R : RattleType) (k : KeeperGhosts K.Denot) (r : RulesGhosts R.Denot) → IsSend K
    → IsSend R → IsSync (hall.the_row K R k r)
hall_sync K R k r sk sr =
    let t = text.the_sync in
    let g = global.the_sync in
    let v = vec.the_sync in
    let b = book_send K R k r sk sr in
    let l = lock.the_sync (book.the_row K R k r) in
    search sendable depth 20
