use Rattle.jm_json.specs.Json.{tree_of}
use Rattle.filter_terms.specs.declared.terms.EmailTerm.TheVariants.{InMailbox, InMailboxOtherThan, Before, After, MinSize, MaxSize, Keyword, HasAttachment}
use Rattle.filter_terms.proofs.Matched.{email_term_means}
use Rattle.filter_terms.proofs.compile.read_email_term.Goals as goal

pub returns-in-InMailbox : goal.returns-in-InMailbox
returns-in-InMailbox c = email_term_means c.build_in_mailbox_condition.result c.args.term InMailbox (tree_of c.args.value.now) c.in-InMailbox.is c.build_in_mailbox_condition.ensures

pub returns-in-Before : goal.returns-in-Before
returns-in-Before c = email_term_means c.build_before_condition.result c.args.term Before (tree_of c.args.value.now) c.in-Before.is c.build_before_condition.ensures

pub returns-in-After : goal.returns-in-After
returns-in-After c = email_term_means c.build_after_condition.result c.args.term After (tree_of c.args.value.now) c.in-After.is c.build_after_condition.ensures

pub returns-in-MinSize : goal.returns-in-MinSize
returns-in-MinSize c = email_term_means c.build_min_size_condition.result c.args.term MinSize (tree_of c.args.value.now) c.in-MinSize.is c.build_min_size_condition.ensures

pub returns-in-MaxSize : goal.returns-in-MaxSize
returns-in-MaxSize c = email_term_means c.build_max_size_condition.result c.args.term MaxSize (tree_of c.args.value.now) c.in-MaxSize.is c.build_max_size_condition.ensures

pub returns-in-HasAttachment : goal.returns-in-HasAttachment
returns-in-HasAttachment c = email_term_means c.has_attachment.result c.args.term HasAttachment (tree_of c.args.value.now) c.in-HasAttachment.is c.has_attachment.ensures

pub returns-in_ok-build_in_mailbox_other_than_condition-in-InMailboxOtherThan : goal.returns-in_ok-build_in_mailbox_other_than_condition-in-InMailboxOtherThan
returns-in_ok-build_in_mailbox_other_than_condition-in-InMailboxOtherThan c =
    let found = c.in_ok-build_in_mailbox_other_than_condition-in-InMailboxOtherThan in
    email_term_means found.field-0 c.args.term InMailboxOtherThan (tree_of c.args.value.now) c.in-InMailboxOtherThan.is found.ensures

pub returns-in_ok-build_keyword_condition-in-Keyword : goal.returns-in_ok-build_keyword_condition-in-Keyword
returns-in_ok-build_keyword_condition-in-Keyword c =
    email_term_means c.in_ok-build_keyword_condition-in-Keyword.field-0 c.args.term (Keyword c.in-Keyword.test) (tree_of c.args.value.now) c.in-Keyword.is c.in_ok-build_keyword_condition-in-Keyword.ensures
