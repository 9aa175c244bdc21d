-- The names of the methods of mail (RFC 8621): one line a method that is built.
use Rattle.std.specs.Prelude.{ℕ, List, codes, bytes_eq, if◌then◌else◌, Option, Some, None}
use Rattle.jm_base.specs.declared.identifiers.Kind.TheVariants.{Mailbox, Email, Thread}
use Rattle.mail_calls.specs.declared.methods.CopyMethod.{CopyMethod}
use Rattle.mail_calls.specs.declared.methods.CopyMethod.TheVariants.{Emails, Blobs}
use Rattle.mail_calls.specs.declared.methods.Method.{Method}
use Rattle.mail_calls.specs.declared.methods.Method.TheVariants.{Get, Changes, MailboxSet, EmailSet, EmailImport, EmailParse, Query, QueryChanges}

-- the method of a name
abbrev pub method_named : List ℕ → Option Method
method_named name =
    if bytes_eq name (codes "Mailbox/get") then Some (Get Mailbox)
    else (if bytes_eq name (codes "Thread/get") then Some (Get Thread)
    else (if bytes_eq name (codes "Email/get") then Some (Get Email)
    else (if bytes_eq name (codes "Mailbox/changes") then Some (Changes Mailbox)
    else (if bytes_eq name (codes "Thread/changes") then Some (Changes Thread)
    else (if bytes_eq name (codes "Email/changes") then Some (Changes Email)
    else (if bytes_eq name (codes "Mailbox/query") then Some (Query Mailbox)
    else (if bytes_eq name (codes "Email/query") then Some (Query Email)
    else (if bytes_eq name (codes "Mailbox/queryChanges") then Some (QueryChanges Mailbox)
    else (if bytes_eq name (codes "Email/queryChanges") then Some (QueryChanges Email)
    else (if bytes_eq name (codes "Mailbox/set") then Some MailboxSet
    else (if bytes_eq name (codes "Email/set") then Some EmailSet
    else (if bytes_eq name (codes "Email/import") then Some EmailImport
    else (if bytes_eq name (codes "Email/parse") then Some EmailParse
    else None)))))))))))))

-- the method of a name that copies from one account to another (RFC 8620, 6.3; RFC 8621, 4.7)
abbrev pub copy_method_named : List ℕ → Option CopyMethod
copy_method_named name =
    if bytes_eq name (codes "Email/copy") then Some Emails
    else (if bytes_eq name (codes "Blob/copy") then Some Blobs
    else None)
