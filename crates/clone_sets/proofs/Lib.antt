pub mod WordLaws
pub mod SetLaws
pub mod MemberLaws
pub mod SizeLaws
pub mod CountLaws
